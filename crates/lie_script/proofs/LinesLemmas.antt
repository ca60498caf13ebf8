-- Cutting a piece at its first LF, and lines that are too long.
use Rattle.std.proofs.Common.{◌≡◌, ℕ, suc, ◌+◌, ◌-◌, ◌<◌, ◌≤◌, Bool, true, false, not, cond, min, eqb, List, [], ◌∷◌, ◌++◌, length, take, Err, refl, inl, inr, ap, sym, ◌∙◌, subst, arith, append_assoc, length-append}
use Rattle.std.proofs.lemmas.Bool.{lt-leb, eqb-true, eqb-false, cases_Bool}
use Rattle.std.proofs.lemmas.List.{take_all, take_min, take-take, length-take-le}
use Rattle.std.proofs.Math.Seq.{take-append_seam, take-append-add}
use Rattle.lie_script.specs.Checks.{◌>>=◌, unless}
use Rattle.lie_script.specs.Fields.{place_of, fields_of}
use Rattle.lie_script.specs.Lines.{HasNoLf, IsFed, kept_limit}
use Rattle.lie_script.specs.Names.{Listed}
use Rattle.lie_script.specs.Reading.{said, reads}
use Rattle.lie_script.specs.declared.faults.Fault.TheVariants.{Bare}
use Rattle.lie_script.specs.declared.faults.FaultName.TheVariants as fault
use Rattle.lie_script.specs.declared.line.Line.{Line}
use Rattle.lie_script.specs.declared.lines.Fed.TheVariants as fed
use Rattle.lie_script.specs.declared.sizes.Sizes.{Sizes}
use Rattle.lie_script.specs.declared.sizes.Wants.{Wants}

-- bytes copied behind those that a buffer keeps, as far as there is room
pub kept : (limit count n size : ℕ) (buffer copied post behind bytes : List ℕ) → count ≤ length buffer → count ≤ limit → limit ≤ size → n ≡ min (limit - count) (length bytes)
    → copied ≡ take n bytes → take (count + n) (take size ((take count buffer ++ (copied ++ post)) ++ behind)) ≡ take limit (take count buffer ++ bytes)
kept limit count n size buffer copied post behind bytes fits within room least is =
    let front = take count buffer in
    let short : n ≤ length bytes = omega (arith, least) in
    let inside : count + n ≤ size = omega (arith, least, within, room) in
    let long : length front ≡ count = length-take-le count buffer fits in
    let new : length copied ≡ n = ap length is ∙ length-take-le n bytes short in
    let all : count + n ≡ length (front ++ copied) = omega (arith, long, new, length-append front copied) in
    let left : length front + (limit - count) ≡ limit = omega (arith, long, within) in
    take-take (count + n) size ((front ++ (copied ++ post)) ++ behind) inside
    ∙ ap (λ z. take (count + n) (z ++ behind)) (sym (append_assoc front copied post)) ∙ ap (take (count + n)) (append_assoc (front ++ copied) post behind)
    ∙ ap (λ k. take k ((front ++ copied) ++ (post ++ behind))) all ∙ take-append_seam (front ++ copied) (post ++ behind)
    ∙ ap (λ z. front ++ z) (is ∙ ap (λ k. take k bytes) least ∙ take_min (limit - count) bytes)
    ∙ sym (take-append-add front bytes (limit - count)) ∙ ap (λ k. take k (front ++ bytes)) left

place-lf : (b : ℕ) (bytes : List ℕ) → eqb b 10 ≡ true → place_of 10 (b ∷ bytes) ≡ 0
place-lf b bytes e = ap (λ (t : Bool). cond (not t) (1 + place_of 10 bytes) 0) e

place-other : (b : ℕ) (bytes : List ℕ) → eqb b 10 ≡ false → place_of 10 (b ∷ bytes) ≡ suc (place_of 10 bytes)
place-other b bytes e = ap (λ (t : Bool). cond (not t) (1 + place_of 10 bytes) 0) e ∙ (let next : 1 + place_of 10 bytes ≡ suc (place_of 10 bytes) = omega arith in next)

-- the first n bytes of a piece have no LF, and the next is one
abbrev EndsAt : List ℕ → ℕ → Type 0
EndsAt piece n = (rest : List ℕ) × (piece ≡ take n piece ++ 10 ∷ rest) × HasNoLf (take n piece)

ends-at : (piece : List ℕ) → place_of 10 piece < length piece → EndsAt piece (place_of 10 piece)
ends-at [] h = let no : ⊥ = omega (arith, h) in absurd no
ends-at (b ∷ piece) h =
    elim (cases_Bool (eqb b 10)) [
      | inl e ↦ subst (EndsAt (b ∷ piece)) (sym (place-lf b piece e)) (piece, ap (λ x. x ∷ piece) (eqb-true b 10 e), tt)
      | inr e ↦
          let inner = ends-at piece (omega (arith, h, place-other b piece e)) in
          subst (EndsAt (b ∷ piece)) (sym (place-other b piece e)) (inner.0, ap (λ z. b ∷ z) inner.1, (eqb-false b 10 e, inner.2))
    ]

no-lf : (piece : List ℕ) → length piece ≤ place_of 10 piece → HasNoLf piece
no-lf [] h = tt
no-lf (b ∷ piece) h =
    elim (cases_Bool (eqb b 10)) [
      | inl e ↦ let no : ⊥ = omega (arith, h, place-lf b piece e) in absurd no
      | inr e ↦ (eqb-false b 10 e, no-lf piece (omega (arith, h, place-other b piece e)))
    ]

-- a piece with an LF is taken up to it
pub fed-line : (front piece taken next : List ℕ) (n : ℕ) → taken ≡ take (place_of 10 piece) piece → n ≡ place_of 10 piece + 1 → next ≡ take kept_limit (front ++ taken)
    → place_of 10 piece < length piece → IsFed front piece (fed.Line n) next
fed-line front piece taken next n is at kept h =
    let ends = ends-at piece h in
    let long : length (take (place_of 10 piece) piece) ≡ place_of 10 piece = length-take-le (place_of 10 piece) piece (omega (arith, h)) in
    let count : n ≡ length (take (place_of 10 piece) piece) + 1 = omega (arith, at, long) in
    (take (place_of 10 piece) piece, (ends.0, ends.1, ends.2, count), kept ∙ ap (λ z. take kept_limit (front ++ z)) is)

-- a piece without an LF is taken whole
pub fed-part : (front piece taken next : List ℕ) → taken ≡ take (place_of 10 piece) piece → next ≡ take kept_limit (front ++ taken) → length piece ≤ place_of 10 piece → IsFed front piece fed.Part next
fed-part front piece taken next is kept h =
    (piece, (refl, no-lf piece h), kept ∙ ap (λ z. take kept_limit (front ++ z)) (is ∙ take_all (place_of 10 piece) piece h))

-- a line that is too long is refused whatever its bytes
pub reads-long : (awaited : Wants) (sizes : Sizes) (listed : Listed) (bytes : List ℕ) → 65536 < length bytes → reads awaited sizes listed bytes ≡ Err (Bare fault.Long)
unfolding reads
reads-long awaited sizes listed bytes long =
    ap (λ (t : Bool). unless t (Bare fault.Long) >>= λ short. said awaited sizes listed bytes (fields_of bytes)) (lt-leb (length bytes) 65536 long)
