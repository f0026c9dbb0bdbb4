-- What stays from one position to a later one.
use Rattle.std.proofs.Common.{◌≡◌, ℕ, ◌≤◌, inl, List, length, sym, ◌∙◌, subst, refl, arith, Option}
use Rattle.std.proofs.Common.{Some}
use Rattle.std.specs.Prelude.{All}
use Rattle.sw_types.specs.declared.ty.Ty.{Ty}
use Rattle.sw_graph.specs.declared.instr.Operand.{Operand}
use Rattle.sw_lower_plans.specs.Plan.{NewBlock, Numbers}
use Rattle.sw_lower_plans.specs.declared.bound.Bound.{Bound}
use Rattle.sw_lower_rules.specs.Tables.{Tables}
use Rattle.sw_lower_formed_facts.specs.Ground.{IsSeen, Knows}
use Rattle.sw_lower_formed_facts.specs.Safe.{Follows, IsIn, IsValue, Keeps, Position, Resumed, here}
use Rattle.sw_lower_formed_facts.specs.Whole.{AtEnd, IsSet, Whole, made_at}
use Rattle.sw_lower_formed_facts.proofs.Positions.Steps.{set_at_end, start_of}

-- A position follows itself.
pub follows_self : (w : Whole) (p : Position) → Follows w p p
follows_self w p = record {
  kept = λ r holds. holds;
  under = λ r holds. holds;
  regs = omega arith;
  numbers = refl;
}

-- What follows one that follows a position follows that position.
pub follows_then : (w : Whole) (p q s : Position) → Follows w p q → Follows w q s → Follows w p s
follows_then w p q s one two = record {
  kept = λ r holds. two.kept r (one.kept r holds);
  under = λ r holds. two.under r (one.under r holds);
  regs = omega (arith, one.regs, two.regs);
  numbers = two.numbers ∙ one.numbers;
}

-- A position keeps what is known at it.
pub keeps_self : (w : Whole) (p : Position) → Keeps w p p
keeps_self w p = record { follows = follows_self w p; vars = refl }

-- What is kept twice is kept.
pub keeps_then : (w : Whole) (p q s : Position) → Keeps w p q → Keeps w q s → Keeps w p s
keeps_then w p q s one two = record {
  follows = follows_then w p q s one.follows two.follows;
  vars = two.vars ∙ one.vars;
}

-- A value stays a value.
pub value_stays : (w : Whole) (p q : Position) (ty : Ty) (x : Operand) → Follows w p q
    → IsValue w p ty x → IsValue w q ty x
value_stays w p q ty x follows value = record {
  kind = value.kind;
  set = follows.kept x.reg value.set;
  made = omega (arith, value.made, follows.regs);
}

seen_stays : (tables : Tables) (owner : Option ℕ) (w : Whole) (p q : Position) (bound : Bound)
    → Follows w p q → IsSeen tables owner w p bound → IsSeen tables owner w q bound
seen_stays tables owner w p q bound follows seen = record {
  ty = seen.ty;
  typed = seen.typed;
  kind = seen.kind;
  set = follows.kept bound.reg seen.set;
  made = omega (arith, seen.made, follows.regs);
}

-- The variables that are seen stay as they are.
pub seen_stay : (tables : Tables) (owner : Option ℕ) (w : Whole) (p q : Position)
    (vars : List Bound) → Follows w p q → All (IsSeen tables owner w p) vars
    → All (IsSeen tables owner w q) vars
seen_stay tables owner w p q vars follows all k d below =
    seen_stays tables owner w p q _ follows (all k d below)

-- What is known stays known where the same variables are seen.
pub knows_still : (tables : Tables) (owner : Option ℕ) (number : Numbers) (w : Whole)
    (p q : Position) → Keeps w p q → Knows tables owner number w p → Knows tables owner number w q
knows_still tables owner number w p q keeps knows = record {
  vars = subst (All (IsSeen tables owner w q)) (sym keeps.vars)
      (seen_stay tables owner w p q p.making.vars keeps.follows knows.vars);
  numbers = keeps.follows.numbers ∙ knows.numbers;
}

-- A block goes on that was made where the position p stands: what is known there is known here.
pub follows_resumed : (w : Whole) (p q s : Position) (number : ℕ) (one : NewBlock) → IsIn w p
    → made_at w number ≡ Some one → one.from ≡ here p → Resumed q number s
    → length p.making.made.regs ≤ length q.making.made.regs
    → q.making.number ≡ p.making.number → Follows w p s
follows_resumed w p q s number one inside made from resumed regs numbers = record {
  kept = λ r holds.
      subst (λ block. IsSet w s.writes block r) (sym resumed.there)
      (inl (start_of w number r one made
      (subst (λ block. AtEnd w block r) (sym from)
      (set_at_end w p.writes (here p) r inside.writes holds))));
  under = λ r holds.
      subst (λ block. AtEnd w block r) (sym resumed.there)
      (inl (start_of w number r one made (subst (λ block. AtEnd w block r) (sym from) holds)));
  regs = omega (arith, regs, resumed.regs);
  numbers = resumed.numbers ∙ numbers;
}
