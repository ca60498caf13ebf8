use Rattle.lie_letters.proofs.SettingLaws.{frame_laws}
use Rattle.lie_letters.proofs.laws.setting_laws.Goals as goal

pub returns : goal.returns
returns c = frame_laws
