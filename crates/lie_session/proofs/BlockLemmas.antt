-- What is answered to `reduce`, `row` and `matrix` in a loaded group, by what the code keeps of it.
use Rattle.std.proofs.Common.{◌≡◌, ◌≢◌, ℕ, Bool, true, false, cond, ◌+◌, ◌<◌, ◌≤◌, List, [], ◌∷◌, length, length-append, Option, Some, None, Result, Ok, Err, refl, sym, ap, ◌∙◌, subst, arith}
use Rattle.std.specs.Prelude.{⊤, ℤ, MatchOption, nat_eq, nat_lt, map, nat_abs}
use Rattle.std.specs.Bool.{MatchBool}
use Rattle.std.specs.List.{All, AllByRecursion}
use Rattle.std.specs.Option.{IfSome, option_map}
use Rattle.std.proofs.lemmas.Bool.Decides.{nat_tests}
use Rattle.lie_audit.specs.WordMatrix.{word_matrix}
use Rattle.lie_const.specs.Modules.{Module, dimension}
use Rattle.lie_datum.specs.RootList.{RootDatum, IsLoaded}
use Rattle.lie_field.specs.FiniteField.{FiniteField}
use Rattle.lie_field.specs.Quotient.{order}
use Rattle.lie_identities.specs.Audited.{AuditedModule}
use Rattle.lie_identities.specs.CoverLines.{AreCoverLines}
use Rattle.lie_identities.specs.Covers.{Covers, IsCovering, IsCoverFault}
use Rattle.lie_identities.specs.declared.covering.CoverFault.{CoverFault}
use Rattle.lie_letters.specs.SignedFrames.{SignedFrame}
use Rattle.lie_letters.specs.declared.letter.Letter.{Letter}
use Rattle.lie_reply.specs.Modules.{matrix_text}
use Rattle.lie_script.specs.Numbers.{is_element}
use Rattle.lie_script.specs.declared.sizes.Wants.TheVariants as wants
use Rattle.lie_session.specs.Blocks.{Rows, begun, with_row}
use Rattle.lie_session.specs.Held.{LoadedGroup, without_block, rows_in, IsRow, AreRowsOf, IsBlockOf}
use Rattle.lie_session.specs.Named.{NamedModule, with_its_lines, Audits, named_of, named_at, module_of, audited_of}
use Rattle.lie_session.specs.Obeyed.{IsAnswered, Joined}
use Rattle.lie_session.specs.Outcomes.{Outcome, quiet, answered, cover_outcome, matrix_of, is_full, TellsReduction, ReducesTo, GoesOn, BeginsBlock, ReadsRow, SaysMatrix}
use Rattle.lie_session.specs.Ready.{IsGrown}
use Rattle.lie_session.specs.State.{dimension_of, block_wants, block_dim}
use Rattle.lie_session.specs.declared.block.Block.{Block}
use Rattle.lie_session.specs.declared.block.Block.TheVariants as block
use Rattle.lie_session.specs.declared.faults.CallFault.{CallFault}
use Rattle.lie_session.specs.declared.faults.CallFault.TheVariants as call
use Rattle.lie_session.specs.declared.stage.Stage.TheVariants as stage
use Rattle.lie_session.proofs.LoadedLemmas.{row_of}
use Rattle.lie_session.proofs.CoverLemmas.{some_basis}
use Rattle.lie_session.proofs.NamedLemmas.{module_in, named_found, named_module, module_at, all_more}

-- a fact by a value that is known
by_value : {A : Type 0} (P : Type 0) (Q : A → Type 0) (o : Option A) (a : A) → o ≡ Some a → Q a → MatchOption o P Q
by_value P Q o a is h = subst (λ z. MatchOption z P Q) (sym is) h

by_none : {A : Type 0} (P : Type 0) (Q : A → Type 0) (o : Option A) → o ≡ None → P → MatchOption o P Q
by_none P Q o is h = subst (λ z. MatchOption z P Q) (sym is) h

-- the entries that the code keeps are the named modules of the group
module _ (g : LoadedGroup) (entries : Audits) (are : named_of entries ≡ g.modules) where
  -- a name with an audited module
  pub found_in : (name : List ℕ) (a : AuditedModule) → audited_of entries name ≡ Some a → module_of g.modules name ≡ Some a.module
  found_in name a is = ap (λ m. module_of m name) (sym are) ∙ named_module entries name ∙ ap (option_map module_in) is

  -- with its lines
  pub lines_in : (name : List ℕ) (a : AuditedModule) → audited_of entries name ≡ Some a → named_at g.modules name ≡ Some (with_its_lines a)
  lines_in name a is = ap (λ m. named_at m name) (sym are) ∙ named_found entries name ∙ ap (option_map with_its_lines) is

  no_lines_in : (name : List ℕ) → audited_of entries name ≡ None → named_at g.modules name ≡ None
  no_lines_in name is = ap (λ m. named_at m name) (sym are) ∙ named_found entries name ∙ ap (option_map with_its_lines) is

  -- a name without
  pub none_in : (name : List ℕ) → audited_of entries name ≡ None → module_of g.modules name ≡ None
  none_in name is = ap (λ m. module_of m name) (sym are) ∙ named_module entries name ∙ ap (option_map module_in) is

  -- ---- `matrix`

  pub says_matrix : (name : List ℕ) (w : List Letter) (a : AuditedModule) (text : List ℕ) → audited_of entries name ≡ Some a → text ≡ matrix_text (word_matrix g.frame.field a.module w)
      → SaysMatrix g name w (answered (stage.Loaded g) text)
  says_matrix name w a text is same =
      let r = answered (stage.Loaded g) text in
      by_value (r ≡ quiet (stage.Loaded g)) (λ v. r ≡ answered (stage.Loaded g) (matrix_text (word_matrix g.frame.field v w))) (module_of g.modules name) a.module (found_in name a is)
      (ap (λ (t : List ℕ). answered (stage.Loaded g) t) same)

  pub says_nothing : (name : List ℕ) (w : List Letter) → audited_of entries name ≡ None → SaysMatrix g name w (quiet (stage.Loaded g))
  says_nothing name w is =
      let r = quiet (stage.Loaded g) in
      by_none (r ≡ quiet (stage.Loaded g)) (λ v. r ≡ answered (stage.Loaded g) (matrix_text (word_matrix g.frame.field v w))) (module_of g.modules name) (none_in name is) refl

  -- ---- `reduce`

  pub begin_none : (name : List ℕ) → audited_of entries name ≡ None → BeginsBlock g name (quiet (stage.Loaded g))
  begin_none name is =
      let r = quiet (stage.Loaded g) in
      by_none (r ≡ quiet (stage.Loaded g)) (λ v. (x : Result ⊤ CoverFault) × Covers g.frame.field g.frame.datum v.module v.lines x × (r ≡ cover_outcome g name x)) (named_at g.modules name)
      (no_lines_in name is) refl

  begin_by : (name : List ℕ) (a : AuditedModule) (x : Result ⊤ CoverFault) (r : Outcome) → audited_of entries name ≡ Some a → Covers g.frame.field g.frame.datum a.module a.lines x
      → r ≡ cover_outcome g name x → BeginsBlock g name r
  begin_by name a x r is covers r_is =
      by_value (r ≡ quiet (stage.Loaded g)) (λ v. (y : Result ⊤ CoverFault) × Covers g.frame.field g.frame.datum v.module v.lines y × (r ≡ cover_outcome g name y)) (named_at g.modules name)
      (with_its_lines a) (lines_in name a is) (x, covers, r_is)

  -- the module does not cover
  pub begin_err : (name : List ℕ) (a : AuditedModule) (f : SignedFrame) (why : CoverFault) → audited_of entries name ≡ Some a → f ≡ g.frame → a.datum ≡ f.datum
      → IsCoverFault f.field a.datum a.module a.lines why → BeginsBlock g name (Err (call.Cover why))
  begin_err name a f why is frame datum fault =
      begin_by name a (Err why) (Err (call.Cover why)) is
      (subst (λ (h : SignedFrame). IsCoverFault h.field h.datum a.module a.lines why) frame (subst (λ (D : RootDatum). IsCoverFault f.field D a.module a.lines why) datum fault)) refl

  -- it covers
  pub begin_ok : (name : List ℕ) (a : AuditedModule) (f : SignedFrame) (b : Rows) (h : LoadedGroup) → audited_of entries name ≡ Some a → f ≡ g.frame → a.datum ≡ f.datum
      → IsCovering f.field a.datum a.module a.lines → b ≡ begun name → h ≡ record g { block = Some (block.Rows b) } → BeginsBlock g name (quiet (stage.Loaded h))
  begin_ok name a f b h is frame datum covers begins h_is =
      begin_by name a (Ok tt) (quiet (stage.Loaded h)) is
      (subst (λ (k : SignedFrame). IsCovering k.field k.datum a.module a.lines) frame (subst (λ (D : RootDatum). IsCovering f.field D a.module a.lines) datum covers))
      (ap (λ (k : LoadedGroup). quiet (stage.Loaded k)) (h_is ∙ ap (λ (z : Rows). record g { block = Some (block.Rows z) }) begins))

  -- ---- rows that one has joined

  module _ (b : Rows) (name : List ℕ) (same : name ≡ b.name) (grown : IsGrown g.frame g.modules b) where
    -- its module is there
    pub grown_found : audited_of entries name ≡ None → ⊥
    grown_found is = clash (sym grown.named ∙ ap (named_at g.modules) (sym same) ∙ no_lines_in name is) where
      clash : Some grown.acted_on ≡ None → ⊥
      clash e = absurd cc

    module _ (a : AuditedModule) (is : audited_of entries name ≡ Some a) where
      acts : grown.acted_on ≡ with_its_lines a
      acts = only grown.acted_on (with_its_lines a) (sym grown.named ∙ ap (named_at g.modules) (sym same) ∙ lines_in name a is) where
        only : (u v : NamedModule) → Some u ≡ Some v → u ≡ v
        only u v e = cc

      lines_by : named_at g.modules b.name ≡ Some (with_its_lines a)
      lines_by = grown.named ∙ ap Some acts

      named_by : module_of g.modules b.name ≡ Some a.module
      named_by = module_at g.modules b.name (with_its_lines a) lines_by

      pub grown_covers : IsCovering g.frame.field g.frame.datum a.module a.lines
      grown_covers = subst (λ (v : NamedModule). IsCovering g.frame.field g.frame.datum v.module v.lines) acts grown.covering

      pub grown_are_rows : AllByRecursion (IsRow g.frame.field (dimension a.module)) b.rows
      grown_are_rows = subst (λ (v : NamedModule). AllByRecursion (IsRow g.frame.field (dimension v.module)) b.rows) acts grown.rows

      grown_within : (count dim : ℕ) → count ≡ length b.rows → dim ≡ dimension a.module → count ≢ dim → length b.rows < dimension a.module
      grown_within count dim counts dims apart =
          let within = subst (λ (v : NamedModule). length b.rows ≤ dimension v.module) acts grown.within in
          lower count dim (length b.rows) (dimension a.module) counts dims apart within where
            lower : (count dim m n : ℕ) → count ≡ m → dim ≡ n → count ≢ dim → m ≤ n → m < n
            lower count dim m n counts dims apart within = grind (arith, counts, dims, apart, within)

      -- it is not full
      pub grown_kept : (f : SignedFrame) (count dim : ℕ) → f ≡ g.frame → count ≡ length b.rows → dim ≡ dimension a.module → count ≢ dim → AreRowsOf f (named_of entries) b
      grown_kept f count dim frame counts dims apart =
          subst (λ m. AreRowsOf f m b) (sym are)
          (subst (λ (k : SignedFrame). AreRowsOf k g.modules b) (sym frame)
          (record { acted_on = with_its_lines a; named = lines_by; covering = grown_covers; rows = grown_are_rows; few = grown_within count dim counts dims apart }))

      joined_by : (r : Outcome) → GoesOn g a.module b r → Joined g b r
      joined_by r h = by_value (r ≡ quiet (stage.Loaded g)) (λ v. GoesOn g v b r) (module_of g.modules b.name) a.module named_by h

      pub joined_kept : (count dim : ℕ) (h : LoadedGroup) → count ≡ length b.rows → dim ≡ dimension a.module → count ≢ dim → h ≡ record g { block = Some (block.Rows b) } → Joined g b (quiet (stage.Loaded h))
      joined_kept count dim h counts dims apart h_is =
          let r = quiet (stage.Loaded h) in
          let missing : is_full a.module b ≡ false = unequal (length b.rows) (dimension a.module) (λ e. apart (counts ∙ e ∙ sym dims)) in
          joined_by r
          (subst (λ z. MatchBool z (ReducesTo g a.module (matrix_of (dimension a.module) b.rows) r) (r ≡ quiet (stage.Loaded (record g { block = Some (block.Rows b) })))) (sym missing)
          (ap (λ (k : LoadedGroup). quiet (stage.Loaded k)) h_is)) where
            unequal : (m n : ℕ) → m ≢ n → nat_eq m n ≡ false
            unequal m n apart = grind (arith, nat_tests, apart)

      joined_full : (count dim : ℕ) (r : Outcome) → count ≡ length b.rows → dim ≡ dimension a.module → count ≡ dim → ReducesTo g a.module (matrix_of (dimension a.module) b.rows) r → Joined g b r
      joined_full count dim r counts dims all h =
          let full : is_full a.module b ≡ true = equal (length b.rows) (dimension a.module) (sym counts ∙ all ∙ dims) in
          joined_by r (subst (λ z. MatchBool z (ReducesTo g a.module (matrix_of (dimension a.module) b.rows) r) (r ≡ quiet (stage.Loaded (record g { block = Some (block.Rows b) })))) (sym full) h) where
            equal : (m n : ℕ) → m ≡ n → nat_eq m n ≡ true
            equal m n same = grind (arith, nat_tests, same)

      -- it is full, and a word has its matrix
      pub joined_text : (f : SignedFrame) (count dim : ℕ) (o : Option (List ℕ)) (text : List ℕ) (h : LoadedGroup) → f ≡ g.frame → count ≡ length b.rows → dim ≡ dimension a.module → count ≡ dim
          → TellsReduction f a.module (matrix_of (dimension a.module) b.rows) o → o ≡ Some text → h ≡ g → g.block ≡ None → Joined g b (answered (stage.Loaded h) text)
      joined_text f count dim o text h frame counts dims all tells o_is h_is outside =
          let M = matrix_of (dimension a.module) b.rows in
          joined_full count dim (answered (stage.Loaded h) text) counts dims all (
            Some text,
            subst (λ (k : SignedFrame). TellsReduction k a.module M (Some text)) frame (subst (TellsReduction f a.module M) o_is tells),
            ap (λ (k : LoadedGroup). answered (stage.Loaded k) text) (h_is ∙ ap (λ (z : Option Block). record g { block = z }) outside),
          )

      -- it is full, and no word has its matrix
      pub joined_none : (f : SignedFrame) (count dim : ℕ) (o : Option (List ℕ)) → f ≡ g.frame → count ≡ length b.rows → dim ≡ dimension a.module → count ≡ dim
          → TellsReduction f a.module (matrix_of (dimension a.module) b.rows) o → o ≡ None → Joined g b (Err call.Outside)
      joined_none f count dim o frame counts dims all tells o_is =
          let M = matrix_of (dimension a.module) b.rows in
          joined_full count dim (Err call.Outside) counts dims all
          (None, subst (λ (k : SignedFrame). TellsReduction k a.module M None) frame (subst (TellsReduction f a.module M) o_is tells), refl)

-- a block that is begun is one of the modules that the code keeps
pub begun_held : (f : SignedFrame) (entries : Audits) (name : List ℕ) (a : AuditedModule) (b : Rows) → b ≡ begun name → audited_of entries name ≡ Some a → a.datum ≡ f.datum
    → IsLoaded f.datum → AreCoverLines a.datum a.module a.lines → IsCovering f.field a.datum a.module a.lines → AreRowsOf f (named_of entries) b
begun_held f entries name a b begins is datum loaded are covers =
    let all : IsCovering f.field f.datum a.module a.lines = subst (λ (D : RootDatum). IsCovering f.field D a.module a.lines) datum covers in
    let lines : AreCoverLines f.datum a.module a.lines = subst (λ (D : RootDatum). AreCoverLines D a.module a.lines) datum are in
    subst (AreRowsOf f (named_of entries)) (sym begins)
    (record {
      acted_on = with_its_lines a;
      named = named_found entries name ∙ ap (option_map with_its_lines) is;
      covering = all;
      rows = tt;
      few = some_basis f.field f.datum a.module a.lines loaded.axioms.input.dim.0 lines all;
    })

-- a row joins the rows before it
pub grown_from : (f : SignedFrame) (entries : Audits) (o : Option Block) (b grown : Rows) (row : List ℤ) → o ≡ Some (block.Rows b) → IfSome o (IsBlockOf f (named_of entries)) → grown ≡ with_row b row
    → length row ≡ block_dim (named_of entries) o → All (λ a. is_element (order f.field.given) a ≡ true) row → IsGrown f (named_of entries) grown
grown_from f entries o b grown row at held grows long within =
    let is : AreRowsOf f (named_of entries) b = subst (λ (z : Option Block). IfSome z (IsBlockOf f (named_of entries))) at held in
    let v = is.acted_on.module in
    let n : length row ≡ dimension v = long ∙ ap (block_dim (named_of entries)) at ∙ ap dimension_of (module_at (named_of entries) b.name is.acted_on is.named) in
    let last = row_of f.field (dimension v) row n within in
    let few = is.few in
    let count = count_more b row in
    subst (IsGrown f (named_of entries)) (sym grows)
    (record { acted_on = is.acted_on; named = is.named; covering = is.covering; rows = more_rows f b row v is.rows last; within = omega (arith, few, count) }) where
      count_more : (b : Rows) (row : List ℤ) → length (with_row b row).rows ≡ length b.rows + 1
      count_more b row = length-append b.rows (map nat_abs row ∷ [])

      more_rows : (f : SignedFrame) (b : Rows) (row : List ℤ) (v : Module) → AllByRecursion (IsRow f.field (dimension v)) b.rows → IsRow f.field (dimension v) (map nat_abs row)
          → AllByRecursion (IsRow f.field (dimension v)) (with_row b row).rows
      more_rows f b row v rows last = all_more (IsRow f.field (dimension v)) b.rows (map nat_abs row) rows last

-- what follows of the rows with one more follows of the row
pub row_leads : (g : LoadedGroup) (b : Rows) (row : List ℤ) (r : Outcome) → g.block ≡ Some (block.Rows b) → AreRowsOf g.frame g.modules b → Joined (without_block g) (with_row b row) r → ReadsRow g row r
row_leads g b row r at is h =
    let named = module_at g.modules b.name is.acted_on is.named in
    let on : GoesOn g is.acted_on.module (with_row b row) r =
    subst (λ z. MatchOption z (r ≡ quiet (stage.Loaded (without_block g))) (λ v. GoesOn g v (with_row b row) r)) named h in
    by_value (r ≡ quiet (stage.Loaded g)) (λ z. MatchOption (module_of g.modules z.name) (r ≡ quiet (stage.Loaded g)) (λ v. GoesOn g v (with_row z row) r)) (rows_in g.block) b (ap rows_in at)
    (by_value (r ≡ quiet (stage.Loaded g)) (λ v. GoesOn g v (with_row b row) r) (module_of g.modules b.name) is.acted_on.module named on)

-- an answer of the group without its block is one of the group
pub answered_without : (P Q : Outcome → Type 0) (g k : LoadedGroup) (result : Result (Option (List ℕ)) CallFault) (h : LoadedGroup) → ((r : Outcome) → P r → Q r) → without_block k ≡ without_block g
    → IsAnswered P k result h → IsAnswered Q g result h
answered_without P Q g k (Ok text) h keeps same is = keeps _ is
answered_without P Q g k (Err why) h keeps same is = λ named. (keeps _ (is named).0, (is named).1 ∙ same)

-- where a row is awaited, rows are read
pub row_awaited : (o : Option Block) → block_wants o ≡ wants.Row → (b : Rows) × (o ≡ Some (block.Rows b))
row_awaited None h = absurd cc
row_awaited (Some (block.Rows b)) h = (b, refl)
row_awaited (Some (block.Table t)) h = absurd (other (nat_lt (length t.weights) t.width) h) where
  other : (b : Bool) → cond b wants.Weight wants.Entry ≡ wants.Row → ⊥
  other true e = absurd cc
  other false e = absurd cc
