-- Code that goes on in another block.
use Rattle.std.proofs.Common.{◌≡◌, ℕ, inl, inr, Bool, true, List, ◌∷◌, subst, sym}
use Rattle.sw_graph.specs.declared.instr.Last.{Last}
use Rattle.sw_lower_plans.specs.Plan.{Entry}
use Rattle.sw_lower_code.specs.Code.{Code, andthen, block_for, close, resume, ◌>>◌}
use Rattle.sw_lower_return_facts.specs.Flows.{Extend, FlowAt, Flows, IsLiveLast, IsMark, Mark}
use Rattle.sw_lower_return_facts.specs.Flows.{OneOf, FlowsHere, FlowState, mark_of}
use Rattle.sw_lower_return_facts.proofs.Flow.Steps.{Closed, MadeBlock, flow_block, flow_close}
use Rattle.sw_lower_return_facts.proofs.Flow.Steps.{flow_resumed, flows_pending, last_by}
use Rattle.sw_lower_return_facts.proofs.Flow.Then.{flow_then}

-- the blocks that are pending, in another order
abbrev pub AreAmong : List ℕ → List ℕ → Type 0
AreAmong some more = (number : ℕ) → OneOf number some → OneOf number more

pub swapped : (one other : ℕ) (rest : List ℕ) → AreAmong (one ∷ other ∷ rest) (other ∷ one ∷ rest)
swapped one other rest number (inl is) = inr (inl is)
swapped one other rest number (inr (inl is)) = inl is
swapped one other rest number (inr (inr is)) = inr (inr is)

pub among_rest : (one : ℕ) (some more : List ℕ) → AreAmong some more
    → AreAmong (one ∷ some) (one ∷ more)
among_rest one some more each number (inl is) = inl is
among_rest one some more each number (inr is) = inr (each number is)

pub stands_pending : (s : FlowState) (live : Bool) (rest more : List ℕ) → AreAmong rest more
    → FlowsHere s live rest → FlowsHere s live more
stands_pending s live rest more each stands = record {
  flows = flows_pending s (s.place.here ∷ rest) (s.place.here ∷ more)
      (among_rest s.place.here rest more each) stands.flows;
  here = stands.here;
}

-- A block is made, with a mark, and the same block goes on.
pub block_then : {B : Type 0} (s : FlowState) (live : Bool) (rest : List ℕ) (entry : Entry)
    (mark : Mark) (next : ℕ → Code B) (Post : B → FlowState → Type 0) → FlowsHere s live rest
    → ((number : ℕ) (t : FlowState) → Extend s.marks t.marks → IsMark t.marks number mark
    → FlowsHere t live (number ∷ rest) → FlowAt t (next number) Post)
    → FlowAt s (andthen (block_for entry) next) Post
block_then s live rest entry mark next Post stands then =
    flow_then s (block_for entry) next (MadeBlock s mark (s.place.here ∷ rest)) Post
    (flow_block s entry mark (s.place.here ∷ rest) stands.flows)
    (λ number t extend made. then number t extend made.is (now number t extend made)) where
      now : (number : ℕ) (t : FlowState) → Extend s.marks t.marks
          → MadeBlock s mark (s.place.here ∷ rest) number t → FlowsHere t live (number ∷ rest)
      now number t extend made =
          let open_here = flows_pending t (number ∷ s.place.here ∷ rest)
          (s.place.here ∷ number ∷ rest) (swapped number s.place.here rest) made.flows in
          record {
            flows = subst (λ here. Flows t (here ∷ number ∷ rest)) (sym made.there) open_here;
            here = subst (λ here. IsMark t.marks here (mark_of live)) (sym made.there)
                (extend s.place.here (mark_of live) stands.here);
          }

-- The block that goes on ends, and another one goes on that is pending.
pub flow_on : (s : FlowState) (live to_live : Bool) (last : Last) (to : ℕ) (pending rest : List ℕ)
    → FlowsHere s live pending → AreAmong pending (to ∷ rest)
    → (live ≡ true → IsLiveLast s.marks last) → IsMark s.marks to (mark_of to_live)
    → FlowAt s (close last >> resume to) (λ _ t. FlowsHere t to_live rest)
flow_on s live to_live last to pending rest stands among leads is =
    flow_then s (close last) (λ _. resume to) (λ _ t. Closed s last (to ∷ rest) t)
    (λ _ t. FlowsHere t to_live rest)
    (flow_close s last (to ∷ rest) (stands_pending s live pending (to ∷ rest) among stands).flows
    (last_by s.marks s.writes s.place.here live last stands.here leads))
    (λ _ t extend closed. flow_resumed t to to_live rest closed.flows
    (extend to (mark_of to_live) is))

pub flow_on_then : {B : Type 0} (s : FlowState) (live to_live : Bool) (last : Last) (to : ℕ)
    (pending rest : List ℕ) (next : Code B) (Post : B → FlowState → Type 0)
    → FlowsHere s live pending → AreAmong pending (to ∷ rest)
    → (live ≡ true → IsLiveLast s.marks last) → IsMark s.marks to (mark_of to_live)
    → ((t : FlowState) → Extend s.marks t.marks → FlowsHere t to_live rest → FlowAt t next Post)
    → FlowAt s (close last >> resume to >> next) Post
flow_on_then s live to_live last to pending rest next Post stands among leads is then =
    flow_then s (close last) (λ _. resume to >> next) (λ _ t. Closed s last (to ∷ rest) t) Post
    (flow_close s last (to ∷ rest) (stands_pending s live pending (to ∷ rest) among stands).flows
    (last_by s.marks s.writes s.place.here live last stands.here leads))
    (λ _ t extend closed. flow_then t (resume to) (λ _. next) (λ _ u. FlowsHere u to_live rest) Post
    (flow_resumed t to to_live rest closed.flows (extend to (mark_of to_live) is))
    (λ _ u more now. then u (λ number mark here. more number mark (extend number mark here)) now))
