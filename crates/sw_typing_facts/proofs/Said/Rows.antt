-- What rows say that hold: no node is ill, and each has the type that is noted.
use Rattle.std.proofs.Common.{◌≡◌, ℕ, Bool, true, false, not, List, [], ◌∷◌, ◌++◌, refl, subst, ◌∙◌}
use Rattle.std.proofs.Common.{Option, Some, None, map}
use Rattle.std.proofs.lemmas.Option.{none-some, same_Some}
use Rattle.std.proofs.lemmas.Bool.{not-false}
use Rattle.std.specs.Prelude.{if◌then◌else◌}
use Rattle.sw_typing_rules.specs.declared.verdict.Verdict.TheVariants.{Has, Fails}
use Rattle.sw_typing_rules.specs.declared.verdict.Verdict.{Verdict}
use Rattle.sw_types.specs.Accepts.{IsAcceptedAs}
use Rattle.sw_types.specs.declared.ty.Ty.{Ty}
use Rattle.sw_typing_rules.specs.Doubts.{decided}
use Rattle.sw_typing_rules.specs.Fits.{fits}
use Rattle.sw_typing_rules.specs.Statements.{refused}
use Rattle.sw_typing_rules.specs.Verdicts.{all_well, ill_if, ill_unless, variable_rows}
use Rattle.sw_typing_rules.specs.Verdicts.{rows_of}
use Rattle.sw_typing_rules.specs.declared.row.Row.{Row}
use Rattle.sw_typing_rules.specs.declared.row.Row.TheVariants.{Ill, Means, Typed}
use Rattle.sw_typing_rules.proofs.Acceptance.{fits_accepts}
use Rattle.sw_isolation_rules.specs.Answers.{Answers}
use Rattle.sw_typing_facts.specs.Rows.{RowsHold}

-- Where rows after each other hold, the first of them hold.
pub rows_left : (answers : Answers) (one more : List Row) → RowsHold answers (one ++ more)
    → RowsHold answers one
rows_left answers [] more hold = tt
rows_left answers (row ∷ one) more hold = (hold.0, rows_left answers one more hold.1)

-- and so do the last
pub rows_right : (answers : Answers) (one more : List Row) → RowsHold answers (one ++ more)
    → RowsHold answers more
rows_right answers [] more hold = hold
rows_right answers (row ∷ one) more hold = rows_right answers one more hold.1

-- Rows that hold tell of no ill node.
pub rows_well : (answers : Answers) (rows : List Row) → RowsHold answers rows
    → all_well rows ≡ true
rows_well answers [] hold = refl
rows_well answers (Typed at ty ∷ rows) hold = rows_well answers rows hold.1
rows_well answers (Means at meaning ∷ rows) hold = rows_well answers rows hold.1
rows_well answers (Ill at code unless ∷ rows) hold = absurd hold.0

-- Where a node isn't ill or in doubt, the test that makes it ill fails.
pub not_in_doubt : (answers : Answers) (fails : Bool) (at code : ℕ) (unless : Option ℕ)
    → RowsHold answers (ill_unless fails at code unless) → fails ≡ false
not_in_doubt answers true at code unless hold = absurd hold.0
not_in_doubt answers false at code unless hold = refl

pub not_ill : (answers : Answers) (fails : Bool) (at code : ℕ)
    → RowsHold answers (ill_if fails at code) → fails ≡ false
not_ill answers fails at code hold = not_in_doubt answers fails at code None hold

-- Rows that hold when all doubts are decided had none.
pub rows_undecided : (answers : Answers) (valued : Bool) (rows : List Row)
    → RowsHold answers (map (decided valued) rows) → RowsHold answers rows
rows_undecided answers valued [] hold = tt
rows_undecided answers valued (Typed at ty ∷ rows) hold =
    (hold.0, rows_undecided answers valued rows hold.1)
rows_undecided answers valued (Means at meaning ∷ rows) hold =
    (hold.0, rows_undecided answers valued rows hold.1)
rows_undecided answers valued (Ill at code None ∷ rows) hold = absurd hold.0
rows_undecided answers true (Ill at code (Some bare) ∷ rows) hold = absurd hold.0
rows_undecided answers false (Ill at code (Some bare) ∷ rows) hold = absurd hold.0

-- and the test that it has to pass holds
pub well_if : (answers : Answers) (holds : Bool) (at code : ℕ)
    → RowsHold answers (ill_if (not holds) at code) → holds ≡ true
well_if answers holds at code hold = not-false holds (not_ill answers (not holds) at code hold)

-- A value that isn't refused is accepted.
pub not_refused : (answers : Answers) (at : ℕ) (found : Option Ty) (from to : Ty)
    → found ≡ Some from → RowsHold answers (refused at found to) → IsAcceptedAs from to
not_refused answers at None from to has hold = absurd (none-some from has)
not_refused answers at (Some ty) from to has hold =
    subst (λ t. IsAcceptedAs t to) (same_Some ty from has)
    (fits_accepts ty to (well_if answers (fits ty to) at 402 hold))

-- the type that is noted of a variable
pub variable_typed : (answers : Answers) (at : ℕ) (found : Option Ty) (ty : Ty)
    → found ≡ Some ty → RowsHold answers (variable_rows at found)
    → answers.type_at at ≡ Some ty
variable_typed answers at None ty has hold = absurd (none-some ty has)
variable_typed answers at (Some noted) ty has hold = hold.0 ∙ has

-- the type that a node has
pub verdict_has : (answers : Answers) (at : ℕ) (verdict : Verdict) (ty : Ty) (rows : List Row)
    → verdict ≡ Has ty → RowsHold answers (rows ++ rows_of at verdict)
    → answers.type_at at ≡ Some ty
verdict_has answers at verdict ty rows is hold =
    (subst (λ v. RowsHold answers (rows_of at v)) is
    (rows_right answers rows (rows_of at verdict) hold)).0

-- A node with a type passed the test that its type hangs on.
pub tested : (answers : Answers) (at code : ℕ) (ty : Ty) (test : Bool)
    → RowsHold answers (rows_of at (if test then Has ty else Fails code)) → test ≡ true
tested answers at code ty true hold = refl
tested answers at code ty false hold = absurd hold.0
