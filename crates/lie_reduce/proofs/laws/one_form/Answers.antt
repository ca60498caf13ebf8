use Rattle.lie_reduce.proofs.OneForm.{forms_are_unique}
use Rattle.lie_reduce.proofs.laws.one_form.Goals as goal

pub returns : goal.returns
returns c = forms_are_unique
