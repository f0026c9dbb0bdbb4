-- The head of a loop whose condition is the literal `true`.
use Rattle.std.proofs.Common.{◌≡◌, ◌≢◌, ℕ, ◌+◌, ◌⊎◌, inl, inr, Bool, true, false, List, []}
use Rattle.std.proofs.Common.{◌∷◌, ◌++◌, length, ap, ◌∙◌, sym, refl, arith, subst, append-nil}
use Rattle.std.specs.Prelude.{All, ◌==◌, if◌then◌else◌}
use Rattle.std.proofs.lemmas.Bool.Decides.{eqb_tells}
use Rattle.std.proofs.lemmas.List.Elements.{All-append, All-nil}
use Rattle.sw_graph.specs.declared.instr.Instr.{Instr}
use Rattle.sw_graph.specs.declared.instr.Instr.TheVariants.{Const}
use Rattle.sw_graph.specs.declared.instr.Literal.TheVariants.{Bool as BoolOf}
use Rattle.sw_graph.specs.declared.instr.Operand.{Operand}
use Rattle.sw_lower_plans.specs.Plan.{Ended, Piece, Place, written_in}
use Rattle.sw_lower_plans.proofs.BlockFacts.{written_both}
use Rattle.sw_lower_code.specs.Code.{Code}
use Rattle.sw_lower_return_facts.specs.Flows.{Fixed, FlowAt, Flows, IsMark, IsReached, LastFlows}
use Rattle.sw_lower_return_facts.specs.Flows.{FlowState, moved}
use Rattle.sw_lower_return_facts.proofs.Flow.Marks.{extend_more, has_before, last_later, mark_within}
use Rattle.sw_lower_return_facts.proofs.Flow.Quiet.{written_here}

-- A piece of code makes the constant `true`, and nothing else.
pub record TrueAt (place : Place) (piece : Piece Operand) : Type 0 where
  pub made : piece.made ≡ []
  pub lasts : piece.lasts ≡ []
  pub there : piece.there ≡ place.here
  pub at : ℕ
  pub writes : piece.writes
      ≡ record { block = place.here; instr = Const at piece.value.reg (BoolOf true) } ∷ []

abbrev pub MakesTrue : Code Operand → Type 0
MakesTrue code = (place : Place) → TrueAt place (code.plan place)

-- The condition is all that the block has.
pub record IsAlone (head : ℕ) (pending : List ℕ) (given : Operand) (t : FlowState) : Type 0 where
  pub flows : Flows t pending
  pub there : t.place.here ≡ head
  pub at : ℕ
  pub alone : written_in head t.writes ≡ Const at given.reg (BoolOf true) ∷ []

written_self : (instr : Instr) (here : ℕ)
    → written_in here (record { block = here; instr = instr } ∷ []) ≡ instr ∷ []
written_self instr here = by (here == here) (eqb_tells here here) where
  by : (same : Bool)
      → (((here == here) ≡ true) × (here ≡ here)) ⊎ (((here == here) ≡ false) × (here ≢ here))
      → (if here == here then instr ∷ [] else []) ≡ instr ∷ []
  by same (inl is) = ap (λ there. if there then instr ∷ [] else []) is.0
  by same (inr is) = absurd (is.1 refl)

module _ (s : FlowState) (head : ℕ) (pending : List ℕ) (flows : Flows s pending)
    (here : s.place.here ≡ head) (is : IsMark s.marks head Fixed)
    (empty : written_in head s.writes ≡ [])
    (others : All (λ (one : Ended). one.block ≢ head) s.lasts) (piece : Piece Operand)
    (makes : TrueAt s.place piece) where
  written_then : (number : ℕ) → number ≢ head
      → written_in number (s.writes ++ piece.writes) ≡ written_in number s.writes
  written_then number other =
      written_both number s.writes piece.writes
      ∙ ap (λ more. written_in number s.writes ++ more)
      (ap (written_in number) makes.writes
      ∙ written_here _ s.place.here number (λ same. other (same ∙ here)))
      ∙ append-nil (written_in number s.writes)

  alone_then : written_in head (s.writes ++ piece.writes)
      ≡ Const makes.at piece.value.reg (BoolOf true) ∷ []
  alone_then =
      written_both head s.writes piece.writes
      ∙ ap (λ first. first ++ written_in head piece.writes) empty
      ∙ ap (written_in head) makes.writes
      ∙ subst (λ n. written_in n (record {
        block = s.place.here;
        instr = Const makes.at piece.value.reg (BoolOf true);
      } ∷ []) ≡ Const makes.at piece.value.reg (BoolOf true) ∷ []) here
      (written_self _ s.place.here)

  lasts_then : All (LastFlows (s.marks ++ []) (s.writes ++ piece.writes)) (s.lasts ++ piece.lasts)
  lasts_then =
      subst (λ more. All (LastFlows (s.marks ++ []) (s.writes ++ piece.writes)) (s.lasts ++ more))
      (sym makes.lasts)
      (All-append (LastFlows (s.marks ++ []) (s.writes ++ piece.writes)) s.lasts []
      (λ k d below. last_later s.marks (s.marks ++ []) s.writes (s.writes ++ piece.writes) _
      (extend_more s.marks []) (λ fixed. written_then _ (others k d below))
      (flows.lasts k d below))
      (All-nil (LastFlows (s.marks ++ []) (s.writes ++ piece.writes))))

  pub true_then : IsAlone head pending piece.value (moved s piece [])
  true_then = record {
    flows = record {
      counted = let same : length (s.marks ++ []) ≡ s.place.blocks + length piece.made =
          ap length (append-nil s.marks) ∙ flows.counted
          ∙ (let none : s.place.blocks ≡ s.place.blocks + length piece.made =
          omega (arith, ap length makes.made) in none) in same;
      fresh = λ number above.
          written_then number (λ same. omega (
            arith,
            above,
            same,
            flows.counted,
            mark_within s.marks head Fixed is,
          ))
          ∙ flows.fresh number (omega (arith, above));
      lasts = lasts_then;
      closed = λ number reached. elim (flows.closed number
          (subst (λ marks. IsReached marks number) (append-nil s.marks) reached)) [
            | inl one ↦ inl one
            | inr has ↦ inr (has_before number s.lasts piece.lasts has)
          ];
    };
    there = makes.there ∙ here;
    at = makes.at;
    alone = alone_then;
  }

pub flow_true : (s : FlowState) (head : ℕ) (pending : List ℕ) (code : Code Operand) → MakesTrue code
    → Flows s pending → s.place.here ≡ head → IsMark s.marks head Fixed
    → written_in head s.writes ≡ [] → All (λ (one : Ended). one.block ≢ head) s.lasts
    → FlowAt s code (IsAlone head pending)
flow_true s head pending code makes flows here is empty others =
    ([], true_then s head pending flows here is empty others (code.plan s.place) (makes s.place))
