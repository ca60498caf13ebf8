use Rattle.std.proofs.Common.{◌≡◌, ◌∷◌, [], ◌<◌, ◌++◌, set, refl, sym, ap, ap₂, ◌∙◌, subst, get_or, arith, reverse, length}
use Rattle.std.proofs.lemmas.List.{get_or_read}
use Rattle.lie_ring.specs.Rings.{IsElem}
use Rattle.lie_letters.specs.PositiveTerms.{positive_terms}
use Rattle.lie_unip.specs.Splitting.{kept_at}
use Rattle.lie_unip.specs.Placing.{IsLifted, crossing}
use Rattle.lie_unip.proofs.OrderedLemmas.{different_at}
use Rattle.lie_unip.proofs.PlacingLemmas.{lifted_one}
use Rattle.lie_unip.proofs.collector.Collector.lift_one.Goals as goal

pub cross-requires-clause-other : goal.cross-requires-clause-other
cross-requires-clause-other g c =
    λ e. different_at (kept_at c.args.self.now.kept.items) c.args.self.now.roots.items c.args.at c.args.place c.args.self.now.lawful.sorted c.requires.later (let w = c.requires.word.within in omega (arith, w))
    (sym c.root-root.ensures.value ∙ e ∙ c.root-k.ensures.value)

pub cross-requires-clause-letters : goal.cross-requires-clause-letters
cross-requires-clause-letters g c =
    let R = g.R.Ring.ring c.args.self.now.ring.now in
    let entries = c.args.entries.now.items in
    let within = c.requires.word.within in
    let count = c.requires.word.entries.count in
    let inside : c.args.place < length entries = omega (arith, within, count) in
    let read : c.replace-x.result ≡ get_or entries c.args.place R.zero = c.replace-x.ensures.value ∙ get_or_read entries c.args.place _ inside c.index_mut.ensures.value R.zero in
    let root = c.root-root.ensures in
    let k = c.root-k.ensures in
    ((c.requires.todo.0.0, (subst (IsElem R) (sym read) (c.requires.word.entries.fit c.args.place R.zero inside).0, tt)), (root.low, root.high, (k.low, k.high, tt)))

pub returns : goal.returns
returns g c =
    let self = c.args.self.now in
    let R = g.R.Ring.ring self.ring.now in
    let m = self.consts.now.positive in
    let terms = positive_terms self.consts.now in
    let ks = self.roots.items in
    let kept = kept_at self.kept.items in
    let lawful = c.args.self.now.lawful in
    let r = get_or ks c.args.at 0 in
    let k = get_or ks c.args.place 0 in
    let a = c.args.a.now in
    let x = c.replace-x.result in
    let entries = c.args.entries.now.items in
    let empty : c.replace-x.new.dest ≡ R.zero = c.replace-x.ensures.after ∙ c.in_ok-empty.ensures.value ∙ lawful.zero_is in
    let word = c.requires.word in
    let end = word.within in
    let count = word.entries.count in
    let within : c.args.place < length ks = omega (arith, end) in
    let inside : c.args.place < length entries = omega (arith, within, count) in
    let read : x ≡ get_or entries c.args.place R.zero = c.replace-x.ensures.value ∙ get_or_read entries c.args.place _ inside c.index_mut.ensures.value R.zero in
    let crossed = c.in_ok-cross.ensures ∙ ap₂ (λ r' k'. crossing R terms r' a (k', x) ++ reverse c.args.todo.now.items) c.root-root.ensures.value c.root-k.ensures.value in
    let pushed = c.in_ok-push.ensures.items ∙ ap (λ k'. c.cross.new.todo.items ++ (k', x) ∷ []) c.root-k.ensures.value in
    subst (λ b. IsLifted R terms m kept ks r a c.args.place entries (set entries c.args.place b) c.args.todo.now.items c.push.new.self.items) (sym empty)
    (lifted_one R (g.met.R.Ring.is_ring self.ring.now) m terms lawful.collectable kept lawful.apart ks lawful.sorted lawful.within r c.args.place c.args.at a x
    entries c.args.todo.now.items c.cross.new.todo.items c.push.new.self.items refl c.requires.later within word.entries (c.requires.todo.0.1, c.requires.todo.1.2) word.zeros c.requires.todo.0.0 read crossed pushed)
