-- What the function of a phase answers.
use Rattle.std.specs.Prelude.{ℕ, List, [], ◌∷◌, Result, Ok, Err}
use Rattle.sw_breach.specs.declared.Breach.{Breach}
use Rattle.sw_verdict.specs.Phases.{breach_of}
use Rattle.sw_verdict.specs.declared.phases.Refusal.{Refusal}
use Rattle.sw_verdict.specs.declared.phases.Refusal.TheVariants.{Breached, Memory}

-- the refusal for a breach without a note
abbrev pub refusal_at : ℕ → ℕ → Refusal
refusal_at code at = Breached (breach_of (record { at = at; code = code }))

-- the phase finds this breach, unless memory ran out
abbrev pub FoundBy : (List Breach → Type 0) → Refusal → Type 0
FoundBy Finding (Breached breach) = Finding (breach ∷ [])
FoundBy Finding Memory = Unit {0}

-- `Found (Finds rule phase text) result`: the phase finds no breach, or that of the refusal.
abbrev pub Found : {A : Type 0} → (List Breach → Type 0) → Result A Refusal → Type 0
Found Finding (Ok value) = Finding []
Found Finding (Err refusal) = FoundBy Finding refusal
