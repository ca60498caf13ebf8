use Rattle.lie_reduce.proofs.OneForm.{words_have_one_form}
use Rattle.lie_reduce.proofs.laws.words_have_one_form.Goals as goal

pub returns : goal.returns
returns c = words_have_one_form
