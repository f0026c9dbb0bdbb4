-- Whether a block that is reached goes on after statements.
use Rattle.std.proofs.Common.{◌≡◌, Bool, true, false, List, subst, refl}
use Rattle.std.specs.Prelude.{◌&&◌, ◌||◌, not}
use Rattle.std.specs.Option.{unwrap_or}
use Rattle.sw_lower_rules.specs.declared.targets.Targets.{Targets}
use Rattle.sw_lower_return_facts.specs.Flows.{Extend, Mark, TargetsFlow, passes}
use Rattle.sw_lower_return_facts.proofs.Flow.Marks.{reached_later}

-- What goes on was reached.
pub passes_live : (ends live : Bool) → passes ends live ≡ true → live ≡ true
passes_live true live is = cc
passes_live false live is = is

-- If one of two ways goes on, so do both together.
pub passes_left : (one other live : Bool) → passes one live ≡ true
    → passes (one && other) live ≡ true
passes_left true other live is = cc
passes_left false other live is = is

pub passes_right : (one other live : Bool) → passes other live ≡ true
    → passes (one && other) live ≡ true
passes_right true other live is = is
passes_right false other live is = passes_live other live is

-- A part of a `switch` goes on only if it goes on after the `switch`.
pub passes_part : (ends breaks own live : Bool) → (ends ≡ true → own ≡ true)
    → passes own live ≡ true → passes (ends && not breaks) live ≡ true
passes_part true breaks own live too is =
    let none : false ≡ true = subst (λ so. passes so live ≡ true) (too refl) is in cc
passes_part false breaks own live too is = passes_live own live is

-- After a `break` it goes on after the `switch`.
pub passes_broken : (ends breaks live : Bool) → live ≡ true → breaks ≡ true
    → passes (ends && not breaks) live ≡ true
passes_broken true true live is broken = is
passes_broken true false live is broken = cc
passes_broken false breaks live is broken = is

-- ways after each other
pub passes_both : (one other live : Bool)
    → passes (one || other) live ≡ passes other (passes one live)
passes_both true true live = refl
passes_both true false live = refl
passes_both false other live = refl

pub or_left : (one other : Bool) → one ≡ true → (one || other) ≡ true
or_left true other is = refl
or_left false other is = cc

pub or_right : (one other : Bool) → other ≡ true → (one || other) ≡ true
or_right true other is = refl
or_right false other is = is

-- The targets of a part are those of the whole.
pub targets_part : (marks more : List Mark) (live part_live breaks part_breaks : Bool)
    (targets : Targets) → Extend marks more → (part_live ≡ true → live ≡ true)
    → (part_breaks ≡ true → breaks ≡ true) → TargetsFlow marks live breaks targets
    → TargetsFlow more part_live part_breaks targets
targets_part marks more live part_live breaks part_breaks targets extend lives broken flow =
    record {
      breaks_to = λ is breaks. reached_later marks more (unwrap_or targets.breaks 0) extend
          (flow.breaks_to (lives is) (broken breaks));
      continues_to = λ is. reached_later marks more (unwrap_or targets.continues 0) extend
          (flow.continues_to (lives is));
    }
