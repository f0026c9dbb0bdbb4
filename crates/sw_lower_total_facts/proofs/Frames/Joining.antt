-- Where code writes that is made of other code.
use Rattle.std.proofs.Common.{◌≡◌, ℕ, ◌≤◌, ◌⊎◌, length, ◌∙◌, subst, refl, arith}
use Rattle.std.proofs.Common.{take}
use Rattle.std.specs.Prelude.{Result, Ok, Err}
use Rattle.sw_lower_plans.specs.Run.{IsGoing, Making, Meets, place_of, run_after, with_vars}
use Rattle.sw_lower_plans.specs.declared.fault.CodeFault.{CodeFault}
use Rattle.sw_lower_code.specs.Code.{Code, andthen, done, scope}
use Rattle.sw_lower_formed_facts.proofs.Positions.Steps.{ended}
use Rattle.sw_lower_total_facts.specs.Frames.{CodeStays, Stays}

-- the block that goes on is a certain one, or not one of the first
abbrev pub IsApart : ℕ → ℕ → Making → Type 0
IsApart count own making = (making.here ≡ own) ⊎ (count ≤ making.here)

-- Code stays, for a certain count and a certain block.
abbrev pub Keeps : {A : Type 0} → ℕ → ℕ → Code A → Type 0
Keeps {A} count own code = (s t : Making) (value : A) → IsGoing s
    → count ≤ length s.made.blocks → IsApart count own s
    → code.run s ≡ Ok (value, t) → Stays count own s t

-- what is so of the value that code gives, where as many blocks are made as a count
abbrev pub Yields : {A : Type 0} → ℕ → (A → Type 0) → Code A → Type 0
Yields {A} count P code = (s t : Making) (value : A) → count ≤ length s.made.blocks → IsGoing s
    → code.run s ≡ Ok (value, t) → P value

-- A run that gives a value keeps the blocks that there were, and one goes on.
pub code_grows : {A : Type 0} (code : Code A) (s t : Making) (value : A) → IsGoing s
    → code.run s ≡ Ok (value, t) → IsGoing t × (length s.made.blocks ≤ length t.made.blocks)
code_grows code s t value going ran =
    let meets = subst (λ result. Meets s result (code.plan (place_of s))) ran
    (code.same s going) in
    (meets.1.there, omega (arith, meets.1.blocks))

stays_both : (count own : ℕ) (s t u : Making) → Stays count own s t → Stays count own t u
    → Stays count own s u
stays_both count own s t u one two = record {
  others = λ number below apart.
      two.others number below apart ∙ one.others number below apart;
  there = two.there;
}

-- a run of two is a run of the first and one of the second
pub ran_both : {A B : Type 0} (first : Code A) (next : A → Code B) (s t : Making) (value : B)
    → (andthen first next).run s ≡ Ok (value, t)
    → (a : A) × (m : Making) × (first.run s ≡ Ok (a, m)) × ((next a).run m ≡ Ok (value, t))
unfolding andthen
ran_both {A} {B} first next s t value ran = by (first.run s) refl ran where
  by : (result : Result (A × Making) CodeFault) → first.run s ≡ result
      → run_after result (λ a. (next a).run) ≡ Ok (value, t)
      → (a : A) × (m : Making) × (first.run s ≡ Ok (a, m)) × ((next a).run m ≡ Ok (value, t))
  by (Err fault) is ran = cc
  by (Ok at) is ran = (at.0, at.1, is, ran)

-- code, and after it code that takes its value, of which something is so
pub keeps_with : {A B : Type 0} (P : A → Type 0) (count own : ℕ) (first : Code A)
    (next : A → Code B) → Keeps count own first → Yields count P first
    → ((value : A) → P value → Keeps count own (next value))
    → Keeps count own (andthen first next)
keeps_with P count own first next one gives two s t value going made apart ran =
    let both = ran_both first next s t value ran in
    let a = both.0 in
    let m = both.1 in
    let grown = code_grows first s m a going both.2 in
    let stays = one s m a going made apart both.2 in
    stays_both count own s m t stays (two a (gives s m a made going both.2) m t value
    grown.0 (omega (arith, made, grown.1)) stays.there both.3)

pub keeps_then : {A B : Type 0} (count own : ℕ) (first : Code A) (next : A → Code B)
    → Keeps count own first → ((value : A) → Keeps count own (next value))
    → Keeps count own (andthen first next)
keeps_then count own first next one two =
    keeps_with (λ value. Unit {0}) count own first next one
    (λ s t value made going ran. tt) (λ value so. two value)

-- code whose variables are seen in it alone
pub keeps_scope : {A : Type 0} (count own : ℕ) (code : Code A) → Keeps count own code
    → Keeps count own (scope code)
unfolding scope
keeps_scope {A} count own code keeps s t value going made apart ran =
    by (code.run s) refl ran where
      by : (result : Result (A × Making) CodeFault) → code.run s ≡ result
          → with_vars (length s.vars) result ≡ Ok (value, t) → Stays count own s t
      by (Err fault) is ran = cc
      by (Ok at) is ran =
          let u : Making = record at.1 { vars = take (length s.vars) at.1.vars } in
          let stays = keeps s at.1 at.0 going made apart is in
          let same : Stays count own s u = record { others = stays.others; there = stays.there } in
          subst (Stays count own s) (ended at.0 u value t ran).1 same

-- nothing is made
pub stays_done : {A : Type 0} (value : A) → CodeStays (done value)
unfolding done
stays_done value count own s t given going made apart ran =
    subst (Stays count own s) (ended value s given t ran).1
    (record { others = λ number below other. refl; there = apart })

-- what is so of the value that code gives
pub yields_any : {A : Type 0} (count : ℕ) (code : Code A) → Yields count (λ value. Unit {0}) code
yields_any count code s t value made going ran = tt

pub yields_done : {A : Type 0} (count : ℕ) (P : A → Type 0) (value : A) → P value
    → Yields count P (done value)
unfolding done
yields_done count P value so s t given made going ran = subst P (ended value s given t ran).0 so

pub yields_then : {A B : Type 0} (count : ℕ) (P : A → Type 0) (Q : B → Type 0) (first : Code A)
    (next : A → Code B) → Yields count P first
    → ((value : A) → P value → Yields count Q (next value))
    → Yields count Q (andthen first next)
yields_then count P Q first next one two s t value made going ran =
    let both = ran_both first next s t value ran in
    let grown = code_grows first s both.1 both.0 going both.2 in
    two both.0 (one s both.1 both.0 made going both.2) both.1 t value
    (omega (arith, made, grown.1)) grown.0 both.3
