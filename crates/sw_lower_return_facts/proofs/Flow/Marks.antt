-- What is said of blocks is kept as code goes on.
use Rattle.std.proofs.Common.{◌≡◌, ◌≢◌, ℕ, zero, suc, ◌<◌, ◌⊎◌, inl, inr, Bool, true, false, List}
use Rattle.std.proofs.Common.{[], ◌∷◌, ◌++◌, length, Some, ◌∙◌, sym, refl, arith, subst}
use Rattle.std.proofs.lemmas.Option.{slice_get_within}
use Rattle.sw_list.proofs.ListLemmas.{at_seam, slice_get_before}
use Rattle.sw_graph.specs.declared.instr.Last.{Last}
use Rattle.sw_lower_plans.specs.Plan.{Ended, Written, written_in}
use Rattle.sw_lower_return_facts.specs.Flows.{AtDead, AtFixed, AtLive}
use Rattle.sw_lower_return_facts.specs.Flows.{Dead, Extend, Fixed, HasLast, IsFixed, IsLiveLast, IsMark}
use Rattle.sw_lower_return_facts.specs.Flows.{IsReached, LastFlows, Live, Mark, mark_of}

pub extend_more : (marks more : List Mark) → Extend marks (marks ++ more)
extend_more marks more number mark is = slice_get_before marks more number mark is

pub extend_both : (one two three : List Mark) → Extend one two → Extend two three
    → Extend one three
extend_both one two three first second number mark is =
    second number mark (first number mark is)

pub reached_later : (marks more : List Mark) (number : ℕ) → Extend marks more
    → IsReached marks number → IsReached more number
reached_later marks more number extend (inl is) = inl (extend number Live is)
reached_later marks more number extend (inr is) = inr (extend number Fixed is)

-- A block that is marked was made.
pub mark_within : (marks : List Mark) (number : ℕ) (mark : Mark) → IsMark marks number mark
    → number < length marks
mark_within marks number mark is = slice_get_within marks number mark is

-- A mark that a truth value gives isn't that of a loop's head.
pub never_fixed : (marks : List Mark) (number : ℕ) (is_live : Bool)
    → IsMark marks number (mark_of is_live) → IsMark marks number Fixed → ⊥
never_fixed marks number true is other =
    let same : Some Live ≡ Some Fixed = sym is ∙ other in cc
never_fixed marks number false is other =
    let same : Some Dead ≡ Some Fixed = sym is ∙ other in cc

pub other_block : (marks : List Mark) (number here : ℕ) (is_live : Bool)
    → IsMark marks here (mark_of is_live) → IsMark marks number Fixed → number ≢ here
other_block marks number here is_live is other same =
    never_fixed marks here is_live is (subst (λ n. IsMark marks n Fixed) same other)

pub is_live_later : (marks more : List Mark) (last : Last) → Extend marks more
    → IsLiveLast marks last → IsLiveLast more last
is_live_later marks more last extend is = record {
  leads = λ k block at. reached_later marks more block extend (is.leads k block at);
  gives = is.gives;
}

is_fixed_later : (marks more : List Mark) (writes written : List Written) (one : Ended)
    → Extend marks more → written_in one.block written ≡ written_in one.block writes
    → IsFixed marks writes one → IsFixed more written one
is_fixed_later marks more writes written one extend same is = record {
  on = is.on;
  holds = is.holds;
  fails = is.fails;
  at = is.at;
  last = is.last;
  alone = same ∙ is.alone;
  reached = reached_later marks more is.holds extend is.reached;
}

-- What is said of a last instruction is said of it later.
pub last_later : (marks more : List Mark) (writes written : List Written) (one : Ended)
    → Extend marks more
    → (IsMark marks one.block Fixed → written_in one.block written ≡ written_in one.block writes)
    → LastFlows marks writes one → LastFlows more written one
last_later marks more writes written one extend same (AtDead is) = AtDead (extend one.block Dead is)
last_later marks more writes written one extend same (AtLive is leads) =
    AtLive (extend one.block Live is) (is_live_later marks more one.last extend leads)
last_later marks more writes written one extend same (AtFixed is leads) =
    AtFixed (extend one.block Fixed is)
    (is_fixed_later marks more writes written one extend (same is) leads)

-- A block with a last instruction was made.
pub last_within : (marks : List Mark) (writes : List Written) (one : Ended)
    → LastFlows marks writes one → one.block < length marks
last_within marks writes one (AtDead is) = mark_within marks one.block Dead is
last_within marks writes one (AtLive is leads) = mark_within marks one.block Live is
last_within marks writes one (AtFixed is leads) = mark_within marks one.block Fixed is

pub has_before : (number : ℕ) (lasts more : List Ended) → HasLast number lasts
    → HasLast number (lasts ++ more)
has_before number [] more has = absurd has
has_before number (one ∷ lasts) more (inl is) = inl is
has_before number (one ∷ lasts) more (inr has) = inr (has_before number lasts more has)

pub has_after : (number : ℕ) (lasts more : List Ended) → HasLast number more
    → HasLast number (lasts ++ more)
has_after number [] more has = has
has_after number (one ∷ lasts) more has = inr (has_after number lasts more has)

-- A mark is one of the first, or that of the new block.
pub mark_new : (marks : List Mark) (mark : Mark) → IsMark (marks ++ mark ∷ []) (length marks) mark
mark_new marks mark = at_seam marks mark []

pub mark_before : (marks : List Mark) (mark other : Mark) (number : ℕ)
    → IsMark (marks ++ mark ∷ []) number other
    → (number ≡ length marks) ⊎ IsMark marks number other
mark_before [] mark other zero is = inl refl
mark_before [] mark other (suc number) is = cc
mark_before (first ∷ marks) mark other zero is = inr is
mark_before (first ∷ marks) mark other (suc number) is =
    elim (mark_before marks mark other number is) [
      | inl same ↦ inl (omega (arith, same))
      | inr before ↦ inr before
    ]
