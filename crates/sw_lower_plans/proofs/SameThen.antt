-- What two runs make, the one after the other, is what their plans say together, and what a run
-- makes whose variables are seen in it alone is what its plan says.
use Rattle.std.proofs.Common.{◌≡◌, ℕ, ◌+◌, ◌<◌, ◌⊎◌, inl, inr, List, ◌++◌, true}
use Rattle.std.proofs.Common.{length, ap, sym, ◌∙◌, arith, append-nil, append_assoc, length-append}
use Rattle.std.proofs.Common.{[], subst, take}
use Rattle.std.proofs.Math.Seq.{take-append_seam}
use Rattle.std.specs.Prelude.{Result, Ok, Err}
use Rattle.sw_graph.specs.declared.function.TheConstants.{MAX_POINTS}
use Rattle.sw_lower_plans.specs.Plan.{Numbers, Piece, Place, Plan, after, ended_in}
use Rattle.sw_lower_plans.specs.Plan.{joined, plan_after, plan_scope, written_in}
use Rattle.sw_lower_plans.specs.Run.{IsGoing, Making, Makes, Meets, Run, instrs_at, last_at, place_of}
use Rattle.sw_lower_plans.specs.Run.{points, run_after, run_scope, with_vars}
use Rattle.sw_lower_plans.specs.declared.bound.Bound.{Bound}
use Rattle.sw_lower_plans.specs.declared.fault.CodeFault.{CodeFault}
use Rattle.sw_lower_plans.specs.declared.fault.CodeFault.TheVariants.{Registers, Blocks, Missing, Memory}
use Rattle.sw_lower_plans.proofs.BlockFacts.{ended_both, inside_both, inside_more, written_both}

abbrev place : Numbers → ℕ → ℕ → ℕ → List Bound → Place
place number regs blocks here vars =
    record { regs = regs; blocks = blocks; here = here; vars = vars; number = number }

-- A run comes to the place after its plan.
pub place_after : {A : Type 0} (piece : Piece A) (s t : Making) → Makes piece s t
    → place_of t ≡ after (place_of s) piece
place_after piece s t made =
    let regs : length t.made.regs ≡ length s.made.regs + length piece.regs =
    ap length made.regs ∙ length-append s.made.regs piece.regs in
    ap (λ number. place number (length t.made.regs) (length t.made.blocks) t.here t.vars)
    made.number
    ∙ ap (λ n. place s.number n (length t.made.blocks) t.here t.vars) regs
    ∙ ap (λ n. place s.number (length s.made.regs + length piece.regs) n t.here t.vars)
    made.blocks
    ∙ ap
    (λ n. place s.number (length s.made.regs + length piece.regs)
    (length s.made.blocks + length piece.made) n t.vars) made.here
    ∙ ap
    (place s.number (length s.made.regs + length piece.regs)
    (length s.made.blocks + length piece.made) piece.there) made.vars

-- From s to t by the first piece, and from t to u by the second.
pub makes_both : {A B : Type 0} (first : Piece A) (second : Piece B) (s t u : Making)
    → Makes first s t → Makes second t u → Makes (joined first second) s u
makes_both first second s t u one two =
    let more_writes = length-append first.writes second.writes in
    let more_made = length-append first.made second.made in
    record {
      key = two.key ∙ one.key;
      iso = two.iso ∙ one.iso;
      is_async = two.is_async ∙ one.is_async;
      number = two.number ∙ one.number;
      regs = two.regs ∙ ap (λ regs. regs ++ second.regs) one.regs
          ∙ append_assoc s.made.regs first.regs second.regs;
      few = λ few. two.few (one.few few);
      blocks = omega (arith, one.blocks, two.blocks, more_made);
      here = two.here;
      there = two.there;
      vars = two.vars ∙ ap (λ vars. vars ++ second.vars) one.vars
          ∙ append_assoc s.vars first.vars second.vars;
      lasts = λ number.
          two.lasts number
          ∙ ap (ended_in number second.lasts) (one.lasts number)
          ∙ sym (ended_both number first.lasts second.lasts (last_at number s.made.blocks));
      inside = inside_both (length u.made.blocks) first.writes second.writes
          (inside_more first.writes (length t.made.blocks) (length u.made.blocks)
          (omega (arith, two.blocks)) one.inside) two.inside;
      most = omega (arith, one.most, two.most, more_writes, more_made);
      beyond = λ over. by (two.beyond over);
      before = λ fits. one.before (two.before fits);
      exact = λ fits.
          let a = one.exact (two.before fits) in
          let b = two.exact fits in
          omega (arith, a, b, more_writes, more_made);
      instrs = λ fits number.
          two.instrs fits number
          ∙ ap (λ instrs. instrs ++ written_in number second.writes)
          (one.instrs (two.before fits) number)
          ∙ append_assoc (instrs_at number s.made.blocks) (written_in number first.writes)
          (written_in number second.writes)
          ∙ ap (λ instrs. instrs_at number s.made.blocks ++ instrs)
          (sym (written_both number first.writes second.writes));
    } where
      again : (s.over ≡ true)
          ⊎ (MAX_POINTS < points s + (length first.writes + length first.made))
          → (s.over ≡ true)
          ⊎ (MAX_POINTS < points s
          + (length (first.writes ++ second.writes) + length (first.made ++ second.made)))
      again (inl over) = inl over
      again (inr many) =
          inr (omega (
            arith,
            many,
            length-append first.writes second.writes,
            length-append first.made second.made,
          ))

      by : (t.over ≡ true) ⊎ (MAX_POINTS < points t + (length second.writes + length second.made))
          → (s.over ≡ true)
          ⊎ (MAX_POINTS < points s
          + (length (first.writes ++ second.writes) + length (first.made ++ second.made)))
      by (inl over) = again (one.beyond over)
      by (inr many) =
          inr (omega (
            arith,
            many,
            one.most,
            length-append first.writes second.writes,
            length-append first.made second.made,
          ))

-- the second run, from where the first ended
second_meets : {A B : Type 0} (first : Piece A) (second : Piece B) (s t : Making)
    (result : Result (B × Making) CodeFault) → Makes first s t → Meets t result second
    → Meets s result (joined first second)
second_meets first second s t (Ok at) made meets =
    (meets.0, makes_both first second s t at.1 made meets.1)
second_meets first second s t (Err Registers) made meets =
    omega (
      arith,
      meets,
      ap length made.regs,
      length-append s.made.regs first.regs,
      length-append first.regs second.regs,
    )
second_meets first second s t (Err Blocks) made meets =
    omega (arith, meets, made.blocks, length-append first.made second.made)
second_meets first second s t (Err Missing) made meets = tt
second_meets first second s t (Err Memory) made meets = absurd meets

pub same_then : {A B : Type 0} (run : Run A) (plan : Plan A) (runs : A → Run B)
    (plans : A → Plan B)
    → ((s : Making) → IsGoing s → Meets s (run s) (plan (place_of s)))
    → ((value : A) (s : Making) → IsGoing s
    → Meets s (runs value s) (plans value (place_of s)))
    → (s : Making) → IsGoing s
    → Meets s (run_after (run s) runs) (plan_after plan plans (place_of s))
same_then {A = A} {B = B} run plan runs plans same sames s going =
    by (run s) (same s going) where
      by : (result : Result (A × Making) CodeFault) → Meets s result (plan (place_of s))
          → Meets s (run_after result runs) (plan_after plan plans (place_of s))
      by (Err Registers) meets =
          omega (
            arith,
            meets,
            length-append (plan (place_of s)).regs
                (plans (plan (place_of s)).value (after (place_of s) (plan (place_of s)))).regs,
          )
      by (Err Blocks) meets =
          omega (
            arith,
            meets,
            length-append (plan (place_of s)).made
                (plans (plan (place_of s)).value (after (place_of s) (plan (place_of s)))).made,
          )
      by (Err Missing) meets = tt
      by (Err Memory) meets = absurd meets
      by (Ok at) meets =
          let second = sames at.0 at.1 meets.1.there in
          let here = place_after (plan (place_of s)) s at.1 meets.1 in
          second_meets (plan (place_of s)) _ s at.1 (runs at.0 at.1) meets.1
          (subst (λ there. Meets at.1 (runs at.0 at.1) (plans (plan (place_of s)).value there)) here
          (subst (λ value. Meets at.1 (runs at.0 at.1) (plans value (place_of at.1))) meets.0
          second))

-- Of variables to which others were added, the first are those that were there.
scope_vars : {A : Type 0} (piece : Piece A) (s t : Making) → Makes piece s t
    → take (length s.vars) t.vars ≡ s.vars ++ []
scope_vars piece s t made =
    ap (take (length s.vars)) made.vars ∙ take-append_seam s.vars piece.vars
    ∙ sym (append-nil s.vars)

pub same_scope : {A : Type 0} (run : Run A) (plan : Plan A)
    → ((s : Making) → IsGoing s → Meets s (run s) (plan (place_of s)))
    → (s : Making) → IsGoing s → Meets s (run_scope run s) (plan_scope plan (place_of s))
same_scope {A = A} run plan same s going = by (run s) (same s going) where
  by : (result : Result (A × Making) CodeFault) → Meets s result (plan (place_of s))
      → Meets s (with_vars (length s.vars) result) (plan_scope plan (place_of s))
  by (Err Registers) meets = meets
  by (Err Blocks) meets = meets
  by (Err Missing) meets = tt
  by (Err Memory) meets = absurd meets
  by (Ok at) meets =
      let made = meets.1 in (
        meets.0,
        record {
          key = made.key;
          iso = made.iso;
          is_async = made.is_async;
          number = made.number;
          regs = made.regs;
          few = made.few;
          blocks = made.blocks;
          here = made.here;
          there = made.there;
          vars = scope_vars (plan (place_of s)) s at.1 made;
          lasts = made.lasts;
          inside = made.inside;
          most = made.most;
          beyond = made.beyond;
          before = made.before;
          exact = made.exact;
          instrs = made.instrs;
        },
      )
