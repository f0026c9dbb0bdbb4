-- Blocks that are made, get a last instruction, and go on.
use Rattle.std.proofs.Common.{◌≡◌, ℕ, zero, suc, ◌+◌, ◌⊎◌, inl, inr, Bool, true, false}
use Rattle.std.proofs.Common.{List, [], ◌∷◌, ◌++◌, length, Some, ap, ◌∙◌, sym, refl}
use Rattle.std.proofs.Common.{arith, subst, append-nil, length-append}
use Rattle.std.specs.Prelude.{All, slice_get}
use Rattle.std.proofs.lemmas.List.Elements.{All-append, All-cons, All-nil}
use Rattle.std.proofs.lemmas.Option.{same_Some}
use Rattle.sw_graph.specs.declared.instr.Last.{Last}
use Rattle.sw_graph.specs.declared.instr.Last.TheVariants.{Branch, Jump, Return}
use Rattle.sw_graph.specs.declared.instr.Operand.{Operand}
use Rattle.sw_lower_plans.specs.Plan.{Ended, Entry, Place, Written, after, nothing, plan_resume}
use Rattle.sw_lower_plans.specs.Plan.{written_in}
use Rattle.sw_lower_code.specs.Code.{block_for, close, done, resume}
use Rattle.sw_lower_return_facts.specs.Flows.{FlowAt, Flows, HasLast, IsLiveLast, IsMark}
use Rattle.sw_lower_return_facts.specs.Flows.{IsReached, LastFlows, Live, Mark, OneOf, FlowsHere}
use Rattle.sw_lower_return_facts.specs.Flows.{FlowState}
use Rattle.sw_lower_return_facts.specs.Flows.{AtDead, AtLive, mark_of, moved}
use Rattle.sw_lower_return_facts.proofs.Flow.Marks.{extend_more, has_after, has_before, last_later}
use Rattle.sw_lower_return_facts.proofs.Flow.Marks.{mark_before, mark_new}
use Rattle.sw_lower_return_facts.proofs.Flow.Quiet.{all_later}

pub flows_pending : (s : FlowState) (pending more : List ℕ)
    → ((number : ℕ) → OneOf number pending → OneOf number more) → Flows s pending → Flows s more
flows_pending s pending more each flows = record {
  counted = flows.counted;
  fresh = flows.fresh;
  lasts = flows.lasts;
  closed = λ number reached. elim (flows.closed number reached) [
    | inl one ↦ inl (each number one)
    | inr has ↦ inr has
  ];
}

-- what a last instruction is, where its block is reached or not
pub last_by : (marks : List Mark) (writes : List Written) (here : ℕ) (is_live : Bool) (last : Last)
    → IsMark marks here (mark_of is_live) → (is_live ≡ true → IsLiveLast marks last)
    → LastFlows marks writes (record { block = here; last = last })
last_by marks writes here true last is leads = AtLive is (leads refl)
last_by marks writes here false last is leads = AtDead is

pub live_reached : (marks : List Mark) (number : ℕ) (is_live : Bool)
    → IsMark marks number (mark_of is_live) → is_live ≡ true → IsReached marks number
live_reached marks number true is same = inl is
live_reached marks number false is same = cc

pub jump_live : (marks : List Mark) (to : ℕ) → IsReached marks to → IsLiveLast marks (Jump to)
jump_live marks to reached = record { leads = leads; gives = λ is. cc } where
  leads : (k block : ℕ) → slice_get (to ∷ []) k ≡ Some block → IsReached marks block
  leads zero block at = subst (IsReached marks) (same_Some to block at) reached
  leads (suc k) block at = cc

pub branch_live : (marks : List Mark) (on : Operand) (holds fails : ℕ) → IsReached marks holds
    → IsReached marks fails → IsLiveLast marks (Branch on holds fails)
branch_live marks on holds fails one other = record { leads = leads; gives = λ is. cc } where
  leads : (k block : ℕ) → slice_get (holds ∷ fails ∷ []) k ≡ Some block → IsReached marks block
  leads zero block at = subst (IsReached marks) (same_Some holds block at) one
  leads (suc zero) block at = subst (IsReached marks) (same_Some fails block at) other
  leads (suc (suc k)) block at = cc

pub return_live : (marks : List Mark) (given : Operand) → IsLiveLast marks (Return (Some given))
return_live marks given = record { leads = λ k block at. cc; gives = λ is. cc }

-- the block that went on got a last instruction
pub record Closed (s : FlowState) (last : Last) (rest : List ℕ) (t : FlowState) : Type 0 where
  pub flows : Flows t rest
  pub writes : t.writes ≡ s.writes
  pub lasts : t.lasts ≡ s.lasts ++ record { block = s.place.here; last = last } ∷ []

pub flow_close : (s : FlowState) (last : Last) (rest : List ℕ) → Flows s (s.place.here ∷ rest)
    → LastFlows s.marks s.writes (record { block = s.place.here; last = last })
    → FlowAt s (close last) (λ _ t. Closed s last rest t)
unfolding close
flow_close s last rest flows leads = (
  [],
  record {
    flows = record {
      counted = let same : length (s.marks ++ []) ≡ s.place.blocks + 0 =
          ap length (append-nil s.marks) ∙ flows.counted
          ∙ (let none : s.place.blocks ≡ s.place.blocks + 0 = omega arith in none) in same;
      fresh = λ number above.
          ap (written_in number) (append-nil s.writes) ∙ flows.fresh number (omega (arith, above));
      lasts = subst (λ marks. All (LastFlows marks (s.writes ++ [])) (s.lasts ++ one ∷ []))
          (sym (append-nil s.marks))
          (subst (λ writes. All (LastFlows s.marks writes) (s.lasts ++ one ∷ []))
          (sym (append-nil s.writes))
          (All-append (LastFlows s.marks s.writes) s.lasts (one ∷ []) flows.lasts
          (All-cons (LastFlows s.marks s.writes) one [] leads
          (All-nil (LastFlows s.marks s.writes)))));
      closed = λ number reached. by number (flows.closed number
          (subst (λ marks. IsReached marks number) (append-nil s.marks) reached));
    };
    writes = append-nil s.writes;
    lasts = refl;
  },
) where
  one : Ended
  one = record { block = s.place.here; last = last }

  by : (number : ℕ) → OneOf number (s.place.here ∷ rest) ⊎ HasLast number s.lasts
      → OneOf number rest ⊎ HasLast number (s.lasts ++ one ∷ [])
  by number (inl (inl is)) = inr (has_after number s.lasts (one ∷ []) (inl (sym is)))
  by number (inl (inr is)) = inl is
  by number (inr has) = inr (has_before number s.lasts (one ∷ []) has)

-- a block was made, with a mark, and is pending
pub record MadeBlock (s : FlowState) (mark : Mark) (pending : List ℕ) (number : ℕ) (t : FlowState)
    : Type 0 where
  pub flows : Flows t (number ∷ pending)
  pub is : IsMark t.marks number mark
  pub number_is : number ≡ s.place.blocks
  pub there : t.place.here ≡ s.place.here
  pub writes : t.writes ≡ s.writes
  pub lasts : t.lasts ≡ s.lasts

pub flow_block : (s : FlowState) (entry : Entry) (mark : Mark) (pending : List ℕ) → Flows s pending
    → FlowAt s (block_for entry) (MadeBlock s mark pending)
unfolding block_for
flow_block s entry mark pending flows = (
  mark ∷ [],
  record {
    flows = record {
      counted = omega (arith, length-append s.marks (mark ∷ []), flows.counted);
      fresh = λ number above.
          ap (written_in number) (append-nil s.writes) ∙ flows.fresh number (omega (arith, above));
      lasts = subst (All (LastFlows (s.marks ++ mark ∷ []) (s.writes ++ [])))
          (sym (append-nil s.lasts))
          (all_later (LastFlows s.marks s.writes)
          (LastFlows (s.marks ++ mark ∷ []) (s.writes ++ [])) s.lasts
          (λ one leads. last_later s.marks (s.marks ++ mark ∷ []) s.writes (s.writes ++ []) one
          (extend_more s.marks (mark ∷ []))
          (λ is. ap (written_in one.block) (append-nil s.writes)) leads) flows.lasts);
      closed = λ number reached. by number (before number reached);
    };
    is = subst (λ n. IsMark (s.marks ++ mark ∷ []) n mark) flows.counted (mark_new s.marks mark);
    number_is = refl;
    there = refl;
    writes = append-nil s.writes;
    lasts = append-nil s.lasts;
  },
) where
  before : (number : ℕ) → IsReached (s.marks ++ mark ∷ []) number
      → (number ≡ length s.marks) ⊎ IsReached s.marks number
  before number (inl is) = elim (mark_before s.marks mark Live number is) [
    | inl same ↦ inl same
    | inr is ↦ inr (inl is)
  ]
  before number (inr is) = elim (mark_before s.marks mark _ number is) [
    | inl same ↦ inl same
    | inr is ↦ inr (inr is)
  ]

  by : (number : ℕ) → (number ≡ length s.marks) ⊎ IsReached s.marks number
      → OneOf number (s.place.blocks ∷ pending) ⊎ HasLast number (s.lasts ++ [])
  by number (inl same) = inl (inl (same ∙ flows.counted))
  by number (inr reached) = elim (flows.closed number reached) [
    | inl one ↦ inl (inr one)
    | inr has ↦ inr (has_before number s.lasts [] has)
  ]

-- another block goes on
pub record Resumed (s : FlowState) (number : ℕ) (pending : List ℕ) (t : FlowState) : Type 0 where
  pub flows : Flows t pending
  pub there : t.place.here ≡ number
  pub writes : t.writes ≡ s.writes
  pub lasts : t.lasts ≡ s.lasts

-- Nothing but the place was changed, and no block was made.
pub flows_unmoved : (s : FlowState) (place : Place) (pending : List ℕ)
    → place.blocks ≡ s.place.blocks → Flows s pending
    → Flows (record {
      place = place;
      marks = s.marks ++ [];
      writes = s.writes ++ [];
      lasts = s.lasts ++ [];
    }) pending
flows_unmoved s place pending same flows = record {
  counted = let now : length (s.marks ++ []) ≡ place.blocks =
      ap length (append-nil s.marks) ∙ flows.counted ∙ sym same in now;
  fresh = λ number above.
      ap (written_in number) (append-nil s.writes)
      ∙ flows.fresh number (omega (arith, above, same));
  lasts = subst (λ marks. All (LastFlows marks (s.writes ++ [])) (s.lasts ++ []))
      (sym (append-nil s.marks))
      (subst (λ writes. All (LastFlows s.marks writes) (s.lasts ++ []))
      (sym (append-nil s.writes))
      (subst (All (LastFlows s.marks s.writes)) (sym (append-nil s.lasts)) flows.lasts));
  closed = λ number reached. elim (flows.closed number
      (subst (λ marks. IsReached marks number) (append-nil s.marks) reached)) [
        | inl one ↦ inl one
        | inr has ↦ inr (has_before number s.lasts [] has)
      ];
}

pub flow_resume : (s : FlowState) (number : ℕ) (pending : List ℕ) → Flows s pending
    → FlowAt s (resume number) (λ _ t. Resumed s number pending t)
unfolding resume
flow_resume s number pending flows = (
  [],
  record {
    flows = flows_unmoved s (after s.place (plan_resume number s.place)) pending
        (let same : s.place.blocks + 0 ≡ s.place.blocks = omega arith in same) flows;
    there = refl;
    writes = append-nil s.writes;
    lasts = append-nil s.lasts;
  },
)

-- nothing is done
pub flow_done : {A : Type 0} (value : A) (s : FlowState) (pending : List ℕ) → Flows s pending
    → FlowAt s (done value) (λ _ t. Flows t pending)
unfolding done
flow_done value s pending flows = (
  [],
  flows_unmoved s (after s.place (nothing value s.place)) pending
      (let same : s.place.blocks + 0 ≡ s.place.blocks = omega arith in same) flows,
)

-- the block goes on that is first among those that are pending
pub flow_resumed : (s : FlowState) (number : ℕ) (is_live : Bool) (rest : List ℕ)
    → Flows s (number ∷ rest) → IsMark s.marks number (mark_of is_live)
    → FlowAt s (resume number) (λ _ t. FlowsHere t is_live rest)
unfolding resume
flow_resumed s number is_live rest flows is =
    let resumed = flow_resume s number (number ∷ rest) flows in (
      resumed.0,
      record {
        flows = subst (λ here. Flows (moved s ((resume number).plan s.place) resumed.0)
            (here ∷ rest)) (sym resumed.1.there) resumed.1.flows;
        here = extend_more s.marks resumed.0 number (mark_of is_live) is;
      },
    )
