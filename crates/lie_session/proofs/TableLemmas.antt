-- Tables that are read line by line.
use Rattle.std.proofs.Common.{◌≡◌, ◌≢◌, ℕ, Bool, true, false, cond, ◌+◌, ◌<◌, ◌≤◌, ℤ, List, [], ◌∷◌, ◌++◌, length, length-append, Option, Some, None, Result, Ok, Err, refl, sym, ap, ◌∙◌, subst, arith, get_or}
use Rattle.std.specs.Prelude.{IfOk, MatchOption, nat_eq, nat_lt, ◌&&◌}
use Rattle.std.specs.Bool.{MatchBool}
use Rattle.std.specs.List.{All}
use Rattle.std.specs.Option.{IfSome}
use Rattle.std.proofs.lemmas.Bool.{false≢true}
use Rattle.std.proofs.lemmas.Bool.Decides.{nat_tests}
use Rattle.std.proofs.lemmas.List.Elements.{All-append, All-nil, All-cons}
use Rattle.lie_const.specs.Modules.{Module, IsModule}
use Rattle.lie_const.specs.Signs.{Signs, eta_of}
use Rattle.lie_datum.specs.RootDatum.{IsWithin}
use Rattle.lie_datum.specs.RootList.{RootDatum}
use Rattle.lie_datum.specs.Vectors.{Vector}
use Rattle.lie_identities.specs.Audit.{HasLightWeights}
use Rattle.lie_letters.specs.SignedFrames.{SignedFrame}
use Rattle.lie_script.specs.declared.sizes.Wants.TheVariants as wants
use Rattle.lie_weight.specs.Tables.{IsEntry, LoadsTable}
use Rattle.lie_weight.specs.declared.entry.Entry.{Entry}
use Rattle.lie_weight.specs.declared.faults.ModuleFault.{ModuleFault}
use Rattle.lie_session.specs.Blocks.{TableLines, opened_table, with_weight, with_entry, is_whole_table}
use Rattle.lie_session.specs.DatumLines.{padded}
use Rattle.lie_session.specs.Held.{LoadedGroup, without_block, table_in, AreTableLines, IsTableOf, IsBlockOf}
use Rattle.lie_session.specs.Loaded.{IsTable}
use Rattle.lie_session.specs.Named.{Named, module_of}
use Rattle.lie_session.specs.Obeyed.{IsAnswered}
use Rattle.lie_session.specs.Outcomes.{Outcome, quiet, ReadsTable, ReadsWeight, ReadsEntry}
use Rattle.lie_session.specs.State.{block_wants, block_dim}
use Rattle.lie_session.specs.declared.block.Block.{Block}
use Rattle.lie_session.specs.declared.block.Block.TheVariants as block
use Rattle.lie_session.specs.declared.stage.Stage.TheVariants as stage

-- one more that has P
all_push : {A : Type 0} (P : A → Type 0) (xs : List A) (x : A) → All P xs → P x → All P (xs ++ x ∷ [])
all_push P xs x h last = All-append P xs (x ∷ []) h (All-cons P x [] last (All-nil P))

-- ---- whether lines are missing

whole_parts : (a b : Bool) → (a && b) ≡ true → (a ≡ true) × (b ≡ true)
whole_parts true true h = (refl, refl)
whole_parts true false h = absurd (false≢true h)
whole_parts false b h = absurd (false≢true h)

equal_from : (m n : ℕ) → nat_eq m n ≡ true → m ≡ n
equal_from m n h = grind (arith, nat_tests, h)

-- a whole table has all its weights and entries
whole_weights : (t : TableLines) → is_whole_table t ≡ true → length t.weights ≡ t.width
whole_weights t h = equal_from (length t.weights) t.width (whole_parts (nat_eq (length t.weights) t.width) (nat_eq (length t.entries) t.count) h).0

-- where a line is missing behind all weights, an entry is
missing_entry : (t : TableLines) → length t.weights ≡ t.width → is_whole_table t ≡ false → length t.entries ≢ t.count
missing_entry t all missing same = false≢true (sym missing ∙ whole) where
  same_is : (m n : ℕ) → m ≡ n → nat_eq m n ≡ true
  same_is m n e = grind (arith, nat_tests, e)

  both : (a b : Bool) → a ≡ true → b ≡ true → (a && b) ≡ true
  both a b h k = ap (λ z. z && b) h ∙ k

  whole : is_whole_table t ≡ true
  whole = both (nat_eq (length t.weights) t.width) (nat_eq (length t.entries) t.count) (same_is (length t.weights) t.width all) (same_is (length t.entries) t.count same)

-- ---- the lines of a table

module _ (f : SignedFrame) (modules : Named) where
  -- no line yet
  pub table_opened : (name : List ℕ) (n e : ℕ) → module_of modules name ≡ None → 1 ≤ n → n ≤ 300 → e ≤ 20000 → IsTableOf f modules (opened_table name n e)
  table_opened name n e free some narrow limit = record {
    lines = record {
      free = free;
      some = some;
      narrow = narrow;
      limit = limit;
      weights = All-nil (IsWithin 1000);
      entries = All-nil (IsEntry f.datum n);
      few_weights = omega arith;
      few_entries = omega arith;
      in_order = λ low. refl;
    };
    missing = first n some (nat_eq 0 e);
  } where
    first : (n : ℕ) → 1 ≤ n → (b : Bool) → (nat_eq 0 n && b) ≡ false
    first n some b = ap (λ z. z && b) (apart n some) where
      apart : (n : ℕ) → 1 ≤ n → nat_eq 0 n ≡ false
      apart n some = grind (arith, nat_tests, some)

  -- a weight joins
  pub weight_joins : (t : TableLines) (v : List ℤ) → AreTableLines f modules t → length t.weights < t.width → IsWithin 1000 (padded v) → AreTableLines f modules (with_weight t v)
  weight_joins t v lines low small =
      let more = length-append t.weights (padded v ∷ []) in
      record {
        free = lines.free;
        some = lines.some;
        narrow = lines.narrow;
        limit = lines.limit;
        weights = all_push (IsWithin 1000) t.weights (padded v) lines.weights small;
        entries = lines.entries;
        few_weights = omega (arith, low, more);
        few_entries = lines.few_entries;
        in_order = λ less. lines.in_order low;
      }

  -- an entry joins
  pub entry_joins : (t : TableLines) (e : Entry) → IsTableOf f modules t → nat_lt (length t.weights) t.width ≡ false → IsEntry f.datum t.width e → AreTableLines f modules (with_entry t e)
  entry_joins t e is behind fits =
      let lines = is.lines in
      let more = length-append t.entries (e ∷ []) in
      let all : length t.weights ≡ t.width = level (length t.weights) t.width lines.few_weights behind in
      let apart = missing_entry t all is.missing in
      let few = lines.few_entries in
      record {
        free = lines.free;
        some = lines.some;
        narrow = lines.narrow;
        limit = lines.limit;
        weights = lines.weights;
        entries = all_push (IsEntry f.datum t.width) t.entries e lines.entries fits;
        few_weights = lines.few_weights;
        few_entries = one_more (length t.entries) t.count (length (t.entries ++ e ∷ [])) few apart more;
        in_order = λ less. absurd (omega (arith, less, all));
      } where
        level : (m n : ℕ) → m ≤ n → nat_lt m n ≡ false → m ≡ n
        level m n few behind = grind (arith, nat_tests, few, behind)

        one_more : (m n k : ℕ) → m ≤ n → m ≢ n → k ≡ m + 1 → k ≤ n
        one_more m n k few apart more = grind (arith, few, apart, more)

  -- the lines of a whole table are one
  pub whole_is_table : (t : TableLines) → AreTableLines f modules t → is_whole_table t ≡ true → IsTable f.datum t.weights t.entries
  whole_is_table t lines whole =
      let all = whole_weights t whole in
      let some = lines.some in
      let narrow = lines.narrow in
      let limit = lines.limit in
      let few = lines.few_entries in
      record {
        some = omega (arith, some, all);
        few = omega (arith, narrow, all);
        weights = lines.weights;
        count = omega (arith, few, limit);
        entries = subst (λ (n : ℕ). All (IsEntry f.datum n) t.entries) (sym all) lines.entries;
      }

-- ---- the module of a table

pub table_shape : (d : RootDatum) (eta : Signs) (ws : List Vector) (es : List Entry) (x : Result Module ModuleFault) → LoadsTable d eta ws es x → IfOk x (IsModule d)
table_shape d eta ws es (Ok v) h = h.1.given.shape
table_shape d eta ws es (Err why) h = tt

more : (x : Vector) → IsWithin 1000 x → IsWithin 1000000 x
more x h k z l = let b = h k z l in omega (arith, b)

pub table_light : (d : RootDatum) (eta : Signs) (ws : List Vector) (es : List Entry) (x : Result Module ModuleFault) → All (IsWithin 1000) ws → LoadsTable d eta ws es x → IfOk x HasLightWeights
table_light d eta ws es (Ok v) small h =
    subst (All (IsWithin 1000000)) (sym h.1.given.weights) (λ k z l. more (get_or ws k z) (small k z l))
table_light d eta ws es (Err why) small h = tt

-- ---- what is awaited

-- where a weight is awaited, a table is read in which one is missing
pub weight_awaited : (o : Option Block) → block_wants o ≡ wants.Weight → (t : TableLines) × (o ≡ Some (block.Table t)) × (length t.weights < t.width)
weight_awaited None h = absurd cc
weight_awaited (Some (block.Rows b)) h = absurd cc
weight_awaited (Some (block.Table t)) h = (t, refl, low (length t.weights) t.width (test (nat_lt (length t.weights) t.width) h)) where
  test : (b : Bool) → cond b wants.Weight wants.Entry ≡ wants.Weight → b ≡ true
  test true e = refl
  test false e = absurd cc

  low : (m n : ℕ) → nat_lt m n ≡ true → m < n
  low m n is = grind (arith, nat_tests, is)

-- where an entry is awaited, a table is read in which no weight is missing
pub entry_awaited : (o : Option Block) → block_wants o ≡ wants.Entry → (t : TableLines) × (o ≡ Some (block.Table t)) × (nat_lt (length t.weights) t.width ≡ false)
entry_awaited None h = absurd cc
entry_awaited (Some (block.Rows b)) h = absurd cc
entry_awaited (Some (block.Table t)) h = (t, refl, test (nat_lt (length t.weights) t.width) h) where
  test : (b : Bool) → cond b wants.Weight wants.Entry ≡ wants.Entry → b ≡ false
  test true e = absurd cc
  test false e = refl

the_table : (t u : TableLines) → Some (block.Table t) ≡ Some (block.Table u) → t ≡ u
the_table t u e = cc

-- the table that is read
module _ (f : SignedFrame) (modules : Named) (o : Option Block) (t : TableLines) (at : o ≡ Some (block.Table t)) (held : IfSome o (IsBlockOf f modules)) where
  pub table_held : IsTableOf f modules t
  table_held = subst (λ (z : Option Block). IfSome z (IsBlockOf f modules)) at held

  -- with a weight more
  pub weight_held : (v : List ℤ) → block_wants o ≡ wants.Weight → IsWithin 1000 (padded v) → AreTableLines f modules (with_weight t v)
  weight_held v awaited small =
      let there = weight_awaited o awaited in
      let same : there.0 ≡ t = the_table there.0 t (sym there.1 ∙ at) in
      weight_joins f modules t v table_held.lines (subst (λ (u : TableLines). length u.weights < u.width) same there.2) small

  -- with an entry more
  pub entry_held : (e : Entry) → block_wants o ≡ wants.Entry → IsEntry f.datum (block_dim modules o) e → AreTableLines f modules (with_entry t e)
  entry_held e awaited fits =
      let there = entry_awaited o awaited in
      let same : there.0 ≡ t = the_table there.0 t (sym there.1 ∙ at) in
      entry_joins f modules t e table_held (subst (λ (u : TableLines). nat_lt (length u.weights) u.width ≡ false) same there.2) (subst (λ (z : Option Block). IsEntry f.datum (block_dim modules z) e) at fits)

-- ---- what a line of a table leads to

by_table : (P : Type 0) (Q : TableLines → Type 0) (o : Option Block) (t : TableLines) → o ≡ Some (block.Table t) → Q t → MatchOption (table_in o) P Q
by_table P Q o t at h = subst (λ (z : Option Block). MatchOption (table_in z) P Q) (sym at) h

pub weight_leads : (g : LoadedGroup) (t : TableLines) (v : List ℤ) (r : Outcome) → g.block ≡ Some (block.Table t) → ReadsTable (without_block g) (with_weight t v) r → ReadsWeight g v r
weight_leads g t v r at h = by_table (r ≡ quiet (stage.Loaded g)) (λ u. ReadsTable g (with_weight u v) r) g.block t at h

pub entry_leads : (g : LoadedGroup) (t : TableLines) (e : Entry) (r : Outcome) → g.block ≡ Some (block.Table t) → ReadsTable (without_block g) (with_entry t e) r → ReadsEntry g e r
entry_leads g t e r at h = by_table (r ≡ quiet (stage.Loaded g)) (λ u. ReadsTable g (with_entry u e) r) g.block t at h
