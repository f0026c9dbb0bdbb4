-- Code that makes no block, gives none a last instruction, and writes in the block that goes on.
use Rattle.std.proofs.Common.{◌≡◌, ◌≢◌, ℕ, ◌+◌, ◌⊎◌, inl, inr, Bool, true, false, List, []}
use Rattle.std.proofs.Common.{◌∷◌, ◌++◌, length, Option, ap, ◌∙◌, sym, refl, arith, subst}
use Rattle.std.proofs.Common.{append-nil}
use Rattle.std.specs.Option.{unwrap_or}
use Rattle.std.specs.Prelude.{All, ◌==◌, if◌then◌else◌}
use Rattle.std.proofs.lemmas.Bool.Decides.{eqb_tells}
use Rattle.std.proofs.lemmas.List.Elements.{All-append, All-nil}
use Rattle.sw_graph.specs.declared.function.RegKind.{RegKind}
use Rattle.sw_graph.specs.declared.instr.Instr.{Instr}
use Rattle.sw_lower_plans.specs.Plan.{Piece, Place, nothing, written_in}
use Rattle.sw_lower_plans.specs.declared.bound.Bound.{Bound}
use Rattle.sw_lower_plans.specs.declared.name.FunctionName.{FunctionName}
use Rattle.sw_lower_plans.proofs.BlockFacts.{written_both}
use Rattle.sw_lower_code.specs.Code.{Code, bind, done, emit, front, known, number, reg, var}
use Rattle.sw_lower_return_facts.specs.Flows.{CodeFlows, Extend, FlowAt, IsMark}
use Rattle.sw_lower_return_facts.specs.Flows.{IsReached, LastFlows, OneOf, FlowsHere, FlowState, mark_of}
use Rattle.sw_lower_return_facts.specs.Flows.{moved}
use Rattle.sw_lower_return_facts.proofs.Flow.Marks.{extend_more, has_before, last_later, mark_within}
use Rattle.sw_lower_return_facts.proofs.Flow.Marks.{other_block}

pub record IsQuiet {A : Type 0} (place : Place) (piece : Piece A) : Type 0 where
  pub made : piece.made ≡ []
  pub lasts : piece.lasts ≡ []
  pub there : piece.there ≡ place.here
  pub writes : (number : ℕ) → number ≢ place.here → written_in number piece.writes ≡ []

-- what holds of each element holds of it in another way
pub all_later : {A : Type 0} (P Q : A → Type 0) (xs : List A) → ((x : A) → P x → Q x) → All P xs
    → All Q xs
all_later P Q xs each all k d inside = each _ (all k d inside)

written_later : {A : Type 0} (s : FlowState) (piece : Piece A) (number : ℕ)
    → IsQuiet s.place piece → number ≢ s.place.here
    → written_in number (s.writes ++ piece.writes) ≡ written_in number s.writes
written_later s piece number quiet other =
    written_both number s.writes piece.writes
    ∙ ap (λ more. written_in number s.writes ++ more) (quiet.writes number other)
    ∙ append-nil (written_in number s.writes)

quiet_lasts : {A : Type 0} (s : FlowState) (live : Bool) (rest : List ℕ) (piece : Piece A)
    → FlowsHere s live rest → IsQuiet s.place piece
    → All (LastFlows (s.marks ++ []) (s.writes ++ piece.writes)) (s.lasts ++ piece.lasts)
quiet_lasts s live rest piece stands quiet =
    subst (λ more. All (LastFlows (s.marks ++ []) (s.writes ++ piece.writes)) (s.lasts ++ more))
    (sym quiet.lasts)
    (All-append (LastFlows (s.marks ++ []) (s.writes ++ piece.writes)) s.lasts []
    (all_later (LastFlows s.marks s.writes)
    (LastFlows (s.marks ++ []) (s.writes ++ piece.writes)) s.lasts
    (λ one flows. last_later s.marks (s.marks ++ []) s.writes (s.writes ++ piece.writes) one
    (extend_more s.marks [])
    (λ is. written_later s piece one.block quiet
    (other_block s.marks one.block s.place.here live stands.here is)) flows) stands.flows.lasts)
    (All-nil (LastFlows (s.marks ++ []) (s.writes ++ piece.writes))))

pub quiet_piece : {A : Type 0} (s : FlowState) (live : Bool) (rest : List ℕ) (piece : Piece A)
    → FlowsHere s live rest → IsQuiet s.place piece → FlowsHere (moved s piece []) live rest
quiet_piece s live rest piece stands quiet = record {
  flows = record {
    counted = let same : length (s.marks ++ []) ≡ s.place.blocks + length piece.made =
        ap length (append-nil s.marks) ∙ stands.flows.counted
        ∙ (let none : s.place.blocks ≡ s.place.blocks + length piece.made =
        omega (arith, ap length quiet.made) in none) in same;
    fresh = λ number above.
        written_later s piece number quiet (λ same. omega (
          arith,
          above,
          same,
          mark_within s.marks s.place.here (mark_of live) stands.here,
          stands.flows.counted,
        ))
        ∙ stands.flows.fresh number (omega (arith, above));
    lasts = quiet_lasts s live rest piece stands quiet;
    closed = λ number reached.
        elim (stands.flows.closed number
        (subst (λ marks. IsReached marks number) (append-nil s.marks) reached)) [
          | inl one ↦ inl (subst (λ here. OneOf number (here ∷ rest)) (sym quiet.there) one)
          | inr has ↦ inr (has_before number s.lasts piece.lasts has)
        ];
  };
  here = extend_more s.marks [] piece.there (mark_of live)
      (subst (λ here. IsMark s.marks here (mark_of live)) (sym quiet.there) stands.here);
}

pub quiet_flows : {A : Type 0} (code : Code A)
    → ((place : Place) → IsQuiet place (code.plan place)) → CodeFlows code
quiet_flows code quiet s live rest stands =
    ([], quiet_piece s live rest (code.plan s.place) stands (quiet s.place))

pub flows_done : {A : Type 0} (value : A) → CodeFlows (done value)
unfolding done
flows_done value = quiet_flows (done value) (λ place.
    record { made = refl; lasts = refl; there = refl; writes = λ number other. refl })

-- a claim on the value, too
pub flow_value : {A : Type 0} (value : A) (s : FlowState) (live : Bool) (rest : List ℕ)
    (Post : A → FlowState → Type 0) → FlowsHere s live rest
    → ((t : FlowState) → Extend s.marks t.marks → FlowsHere t live rest → Post value t)
    → FlowAt s (done value) Post
unfolding done
flow_value value s live rest Post stands goes =
    let piece = nothing value s.place in
    let same : IsQuiet s.place piece =
    record { made = refl; lasts = refl; there = refl; writes = λ number other. refl } in (
      [],
      goes (moved s piece []) (extend_more s.marks [])
          (quiet_piece s live rest piece stands same),
    )

pub flows_known : {A : Type 0} (fallback : A) (found : Option A) → CodeFlows (known fallback found)
unfolding known
flows_known fallback found = quiet_flows (known fallback found) (λ place.
    record { made = refl; lasts = refl; there = refl; writes = λ number other. refl })

-- the value that is known, too
pub flow_known : {A : Type 0} (fallback : A) (found : Option A) (s : FlowState) (live : Bool)
    (rest : List ℕ) → FlowsHere s live rest
    → FlowAt s (known fallback found)
    (λ value t. (value ≡ unwrap_or found fallback) × FlowsHere t live rest)
unfolding known
flow_known fallback found s live rest stands = (
  [],
  (
    refl,
    quiet_piece s live rest (nothing (unwrap_or found fallback) s.place) stands
        (record { made = refl; lasts = refl; there = refl; writes = λ number other. refl }),
  ),
)

pub flows_var : (key : ℕ) → CodeFlows (var key)
unfolding var
flows_var key = quiet_flows (var key) (λ place.
    record { made = refl; lasts = refl; there = refl; writes = λ number other. refl })

pub flows_number : (name : FunctionName) → CodeFlows (number name)
unfolding number
flows_number name = quiet_flows (number name) (λ place.
    record { made = refl; lasts = refl; there = refl; writes = λ number other. refl })

pub flows_reg : (kind : RegKind) → CodeFlows (reg kind)
unfolding reg
flows_reg kind = quiet_flows (reg kind) (λ place.
    record { made = refl; lasts = refl; there = refl; writes = λ number other. refl })

pub flows_bind : (bound : Bound) → CodeFlows (bind bound)
unfolding bind
flows_bind bound = quiet_flows (bind bound) (λ place.
    record { made = refl; lasts = refl; there = refl; writes = λ number other. refl })

pub written_here : (instr : Instr) (here number : ℕ) → number ≢ here
    → written_in number (record { block = here; instr = instr } ∷ []) ≡ []
written_here instr here number other = by (here == number) (eqb_tells here number) where
  by : (same : Bool)
      → (((here == number) ≡ true) × (here ≡ number))
      ⊎ (((here == number) ≡ false) × (here ≢ number))
      → (if here == number then instr ∷ [] else []) ≡ []
  by same (inl is) = absurd (other (sym is.1))
  by same (inr is) = ap (λ there. if there then instr ∷ [] else []) is.0

pub flows_emit : (instr : Instr) → CodeFlows (emit instr)
unfolding emit
flows_emit instr = quiet_flows (emit instr) (λ place. record {
  made = refl;
  lasts = refl;
  there = refl;
  writes = written_here instr place.here;
})

pub flows_front : (instr : Instr) → CodeFlows (front instr)
unfolding front
flows_front instr = quiet_flows (front instr) (λ place. record {
  made = refl;
  lasts = refl;
  there = refl;
  writes = written_here instr place.here;
})
