-- The runs of code put after code, and what their plans say of them.
use Rattle.std.proofs.Common.{◌≡◌, ℕ, ◌<◌, ◌≤◌, Bool, true, false, Option, Some, None, List, []}
use Rattle.std.proofs.Common.{◌∷◌, ◌++◌, length, take, ap, sym, ◌∙◌, subst, arith, length-append}
use Rattle.std.specs.List.{AllByRecursion}
use Rattle.std.specs.Prelude.{Result, Ok, Err, ◌⊎◌, ◌≢◌, ◌==◌, if◌then◌else◌}
use Rattle.std.proofs.Common.{inl, inr, refl, append-nil}
use Rattle.std.proofs.lemmas.Bool.Decides.{eqb_tells}
use Rattle.sw_graph.specs.declared.instr.Last.{Last}
use Rattle.sw_lower_plans.specs.Plan.{Ended, Written, ended_in, var_in, written_in}
use Rattle.sw_lower_plans.specs.Run.{IsGoing, Making, Makes, Meets, instrs_at, last_at, place_of}
use Rattle.sw_lower_plans.specs.Run.{run_after, run_known, with_vars}
use Rattle.sw_lower_plans.specs.declared.bound.Bound.{Bound}
use Rattle.sw_lower_plans.specs.declared.fault.CodeFault.{CodeFault}
use Rattle.sw_lower_plans.specs.declared.name.FunctionName.{FunctionName}
use Rattle.sw_lower_code.specs.Code.{Code, andthen, done, known, number, scope, var}
use Rattle.sw_lower_run_facts.specs.Apart.{CodeApart, IsApart}

-- what a run gave, and the function after it
abbrev pub ended : {A : Type 0} → A → Making → Result (A × Making) CodeFault
ended value s = Ok (value, s)

pub gave_same : {A : Type 0} (value given : A) (s t : Making) → ended value s ≡ ended given t
    → (value ≡ given) × (s ≡ t)
gave_same {A} value given s t is =
    (ap (λ result. (of result).0) is, ap (λ result. (of result).1) is) where
      of : Result (A × Making) CodeFault → A × Making
      of (Ok at) = at
      of (Err fault) = (value, s)

-- A run of two is a run of the first and one of the second.
pub ran_both : {A B : Type 0} (first : Code A) (next : A → Code B) (s t : Making) (value : B)
    → (andthen first next).run s ≡ Ok (value, t)
    → (a : A) × (m : Making) × (first.run s ≡ Ok (a, m)) × ((next a).run m ≡ Ok (value, t))
unfolding andthen
ran_both {A} {B} first next s t value ran = by (first.run s) refl ran where
  by : (result : Result (A × Making) CodeFault) → first.run s ≡ result
      → run_after result (λ a. (next a).run) ≡ Ok (value, t)
      → (a : A) × (m : Making) × (first.run s ≡ Ok (a, m)) × ((next a).run m ≡ Ok (value, t))
  by (Err fault) is ran = cc
  by (Ok at) is ran = (at.0, at.1, is, ran)

-- what a run makes is what its plan says
pub made_of : {A : Type 0} (code : Code A) (s t : Making) (value : A) → IsGoing s
    → code.run s ≡ Ok (value, t)
    → (value ≡ (code.plan (place_of s)).value) × Makes (code.plan (place_of s)) s t
made_of code s t value going ran =
    subst (λ result. Meets s result (code.plan (place_of s))) ran (code.same s going)

-- registers and blocks only become more, and a block goes on
pub record Grew (s t : Making) : Type 0 where
  pub going : IsGoing t
  pub regs : length s.made.regs ≤ length t.made.regs
  pub blocks : length s.made.blocks ≤ length t.made.blocks
  pub number : t.number ≡ s.number
  pub before : t.over ≡ false → s.over ≡ false

pub grew : {A : Type 0} (code : Code A) (s t : Making) (value : A) → IsGoing s
    → code.run s ≡ Ok (value, t) → Grew s t
grew code s t value going ran =
    let m = (made_of code s t value going ran).1 in
    record {
      going = m.there;
      regs = (let same = ap length m.regs
          ∙ length-append s.made.regs (code.plan (place_of s)).regs in omega (arith, same));
      blocks = (let same = m.blocks in omega (arith, same));
      number = m.number;
      before = m.before;
    }

pub grew_both : (s t u : Making) → Grew s t → Grew t u → Grew s u
grew_both s t u one two = record {
  going = two.going;
  regs = (let a = one.regs in let b = two.regs in omega (arith, a, b));
  blocks = (let a = one.blocks in let b = two.blocks in omega (arith, a, b));
  number = two.number ∙ one.number;
  before = λ fits. one.before (two.before fits);
}

-- a block that isn't apart gets no instructions and no last one
none_written : (count own b : ℕ) (writes : List Written) → b < count → b ≢ own
    → AllByRecursion (λ (one : Written). IsApart count own one.block) writes
    → written_in b writes ≡ []
none_written count own b [] below other all = refl
none_written count own b (one ∷ writes) below other all =
    by (one.block == b) (eqb_tells one.block b) all.0
    (none_written count own b writes below other all.1) where
      by : (is : Bool)
          → ((is ≡ true) × (one.block ≡ b)) ⊎ ((is ≡ false) × (one.block ≢ b))
          → IsApart count own one.block → written_in b writes ≡ []
          → (if is then one.instr ∷ written_in b writes else written_in b writes) ≡ []
      by false tells apart rest = rest
      by true (inl tells) (inl same) rest = absurd (other (sym tells.1 ∙ same))
      by true (inl tells) (inr above) rest =
          absurd (let c : ⊥ = (let is = tells.1 in omega (arith, below, above, is)) in c)
      by true (inr tells) apart rest =
          absurd (let c : ⊥ = (let wrong : true ≡ false = tells.0 in cc) in c)

none_ended : (count own b : ℕ) (lasts : List Ended) (last : Last) → b < count → b ≢ own
    → AllByRecursion (λ (one : Ended). IsApart count own one.block) lasts
    → ended_in b lasts last ≡ last
none_ended count own b [] last below other all = refl
none_ended count own b (one ∷ lasts) last below other all =
    by (one.block == b) (eqb_tells one.block b) all.0
    (none_ended count own b lasts last below other all.1) where
      by : (is : Bool)
          → ((is ≡ true) × (one.block ≡ b)) ⊎ ((is ≡ false) × (one.block ≢ b))
          → IsApart count own one.block → ended_in b lasts last ≡ last
          → ended_in b lasts (if is then one.last else last) ≡ last
      by false tells apart rest = rest
      by true (inl tells) (inl same) rest = absurd (other (sym tells.1 ∙ same))
      by true (inl tells) (inr above) rest =
          absurd (let c : ⊥ = (let is = tells.1 in omega (arith, below, above, is)) in c)
      by true (inr tells) apart rest =
          absurd (let c : ⊥ = (let wrong : true ≡ false = tells.0 in cc) in c)

-- Blocks that there were, but for the one that went on, have what they had; and the block that goes
-- on is that one or a new one.
pub record LeftAlone (s t : Making) : Type 0 where
  pub instrs : t.over ≡ false → (b : ℕ) → b < length s.made.blocks → b ≢ s.here
      → instrs_at b t.made.blocks ≡ instrs_at b s.made.blocks
  pub lasts : (b : ℕ) → b < length s.made.blocks → b ≢ s.here
      → last_at b t.made.blocks ≡ last_at b s.made.blocks
  pub there : (t.here ≡ s.here) ⊎ (length s.made.blocks ≤ t.here)

pub left_alone : {A : Type 0} (code : Code A) (s t : Making) (value : A) → CodeApart code
    → IsGoing s → code.run s ≡ Ok (value, t) → LeftAlone s t
left_alone code s t value apart going ran =
    let m = (made_of code s t value going ran).1 in
    let all = apart (length s.made.blocks) s.here (place_of s) (omega arith) (inl refl) in
    record {
      instrs = λ fits b below other. m.instrs fits b
          ∙ ap (λ list. instrs_at b s.made.blocks ++ list)
          (none_written (length s.made.blocks) s.here b _ below other all.writes)
          ∙ append-nil (instrs_at b s.made.blocks);
      lasts = λ b below other. m.lasts b
          ∙ none_ended (length s.made.blocks) s.here b _ (last_at b s.made.blocks) below other
          all.lasts;
      there = subst (λ here. (here ≡ s.here) ⊎ (length s.made.blocks ≤ here)) (sym m.here)
          all.there;
    }

-- what is looked up is known, and nothing is made
looked_up : {A : Type 0} (found : Option A) (s t : Making) (value : A)
    → run_known found s ≡ Ok (value, t) → (found ≡ Some value) × (s ≡ t)
looked_up None s t value ran = cc
looked_up (Some one) s t value ran =
    let same = gave_same one value s t ran in (ap Some same.0, same.1)

pub known_ran : {A : Type 0} (fallback : A) (found : Option A) (s t : Making) (value : A)
    → (known fallback found).run s ≡ Ok (value, t) → (found ≡ Some value) × (s ≡ t)
unfolding known
known_ran fallback found s t value ran = looked_up found s t value ran

pub var_ran : (key : ℕ) (s t : Making) (bound : Bound) → (var key).run s ≡ Ok (bound, t)
    → (var_in key s.vars ≡ Some bound) × (s ≡ t)
unfolding var
var_ran key s t bound ran = looked_up (var_in key s.vars) s t bound ran

pub number_ran : (name : FunctionName) (s t : Making) (f : ℕ) → (number name).run s ≡ Ok (f, t)
    → (s.number name ≡ Some f) × (s ≡ t)
unfolding number
number_ran name s t f ran = looked_up (s.number name) s t f ran

pub done_ran : {A : Type 0} (value given : A) (s t : Making) → (done value).run s ≡ Ok (given, t)
    → (value ≡ given) × (s ≡ t)
unfolding done
done_ran value given s t ran = gave_same value given s t ran

-- what is declared in a scope is seen in it alone
pub scope_ran : {A : Type 0} (code : Code A) (s t : Making) (value : A)
    → (scope code).run s ≡ Ok (value, t)
    → (u : Making) × (code.run s ≡ Ok (value, u))
    × (t ≡ record u { vars = take (length s.vars) u.vars })
unfolding scope
scope_ran {A} code s t value ran = by (code.run s) refl ran where
  by : (result : Result (A × Making) CodeFault) → code.run s ≡ result
      → with_vars (length s.vars) result ≡ Ok (value, t)
      → (u : Making) × (code.run s ≡ Ok (value, u))
      × (t ≡ record u { vars = take (length s.vars) u.vars })
  by (Err fault) is ran = cc
  by (Ok at) is ran =
      let same = gave_same at.0 value (record at.1 { vars = take (length s.vars) at.1.vars }) t
      ran in
      (at.1, is ∙ ap (λ x. Ok (x, at.1)) same.0, sym same.1)
