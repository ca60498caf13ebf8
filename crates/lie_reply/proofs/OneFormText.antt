-- A form has one text alone.
use Rattle.std.proofs.Common.{◌≡◌, ℕ, ℤ, ◌++◌, List, length, sym, ap, ◌∙◌}
use Rattle.std.specs.Prelude.{codes}
use Rattle.lie_datum.specs.RootList.{RootDatum, IsLoaded}
use Rattle.lie_script.specs.FormTexts.{form_text}
use Rattle.lie_unip.specs.Forms.{FormData}
use Rattle.lie_weyl.specs.WeylElement.{IsLeastWord}
use Rattle.lie_weyl.proofs.Linearity.{spelled_same}
use Rattle.lie_weyl.proofs.LengthLemmas.{length_same}
use Rattle.lie_reply.specs.Commands.{TellsForm}
use Rattle.lie_reply.proofs.WeylLemmas.{two_least}

-- an element has one least word
pub one_least : (D : RootDatum) → IsLoaded D → (images : List ℤ) (w v : List ℕ) → IsLeastWord D w images → IsLeastWord D v images → w ≡ v
one_least D loaded images w v x y =
    let long : length v ≡ length w = y.shortest ∙ length_same D loaded v w (spelled_same D loaded v w images y.spells x.spells) ∙ sym x.shortest in
    two_least w v (x.least v y.spells long) (y.least w x.spells (sym long))

pub one_form_text : (D : RootDatum) → IsLoaded D → (x : FormData) (t u : List ℕ) → TellsForm D x t → TellsForm D x u → t ≡ u
one_form_text D loaded x t u p q =
    p.is ∙ ap (λ w. form_text x w ++ codes "\n") (one_least D loaded x.weyl p.word q.word p.least q.least) ∙ sym q.is
