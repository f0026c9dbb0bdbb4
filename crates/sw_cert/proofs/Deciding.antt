-- What is answered about bytes is answered in one way.
use Rattle.std.proofs.Common.{◌≡◌, ℕ, inl, inr, Option, Some, None}
use Rattle.std.proofs.Common.{List, [], ◌∷◌, ◌++◌, length, Result, Ok, Err, refl, sym, subst}
use Rattle.std.proofs.Common.{ap, ◌∙◌}
use Rattle.std.proofs.lemmas.Bool.{cases_order}
use Rattle.std.specs.List.{slice_get, AllByRecursion}
use Rattle.sw_graph.specs.declared.function.Function.{Function}
use Rattle.sw_graph.specs.declared.graph.Graph.{Graph}
use Rattle.sw_partition.specs.Laws.{within_trans, same_within}
use Rattle.sw_partition.specs.Regions.{Regions, IsWithin}
use Rattle.sw_region_flow.proofs.Same.{copy_back, copy_trans}
use Rattle.sw_region_ops.specs.Setting.{FunctionSetting, setting_of}
use Rattle.sw_solve.specs.Annotation.{value_at, IsBelow}
use Rattle.sw_cert.proofs.Alike.{IsCopiedIn}
use Rattle.sw_cert.specs.ReadLines.{text_of}
use Rattle.sw_cert.specs.Reading.{states_of}
use Rattle.sw_cert.specs.Verified.{Annotations, EntersAt, IsFirstNotEntered}
use Rattle.sw_cert.specs.Verified.{PassesAt, ClosedAt, LinePasses, LineIsClosed, Holds}
use Rattle.sw_cert.specs.declared.line.Line.{Line}
use Rattle.sw_cert.specs.declared.verdict.CertFault.{CertFault}
use Rattle.sw_cert.specs.declared.verdict.CertFault.TheVariants as faults

-- ---- what copies of an annotation say
abbrev pub States : Type 0
States = List (Option Regions)

-- the second has a copy of what the first has at each block
abbrev pub IsCopiedAll : States → States → Type 0
IsCopiedAll a b = (block : ℕ) (state : Regions) → value_at a block ≡ Some state
    → IsCopiedIn a b block state

below_copied : (a b : States) → IsCopiedAll a b → (block : ℕ) (state : Regions)
    → IsBelow IsWithin state (value_at a block) → IsBelow IsWithin state (value_at b block)
below_copied a b copies block state below = by (value_at a block) refl below
  where
    by : (o : Option Regions) → value_at a block ≡ o → IsBelow IsWithin state o
        → IsBelow IsWithin state (value_at b block)
    by None e below = absurd below
    by (Some x) e below =
        let h = copies block x e in
        subst (IsBelow IsWithin state) (sym h.stands)
        (within_trans state x h.copy below (same_within x h.copy h.is_copy.same).0)

passes_copied : (setting : FunctionSetting) (a b : States) → IsCopiedAll b a → (block : ℕ)
    → PassesAt setting a block → PassesAt setting b block
passes_copied setting a b back block passes state copied at copy =
    let h = back block state at in
    passes h.copy copied h.stands
    (copy_trans h.copy state copied (copy_back state h.copy h.is_copy) copy)

closed_copied : (setting : FunctionSetting) (a b : States) → IsCopiedAll a b → IsCopiedAll b a
    → (block : ℕ) → ClosedAt setting a block → ClosedAt setting b block
closed_copied setting a b forth back block closed state at =
    let h = back block state at in
    let on = closed h.copy h.stands in
    record {
      made = on.made;
      leads_to = record {
        copied = on.leads_to.copied;
        is_copy = copy_trans state h.copy on.leads_to.copied h.is_copy on.leads_to.is_copy;
        runs = on.leads_to.runs;
      };
      below = λ next follows. below_copied a b forth next on.made (on.below next follows);
    }

-- ---- what is said of one reading
-- what is wrong with a line that begins at a byte
abbrev pub Stops : Graph → Annotations → Line → ℕ → CertFault → Type 0
Stops graph states line at (faults.Fails n) = (n ≡ at) × (¬ (LinePasses graph states line))
Stops graph states line at (faults.Open n) =
    (n ≡ at) × LinePasses graph states line × (¬ (LineIsClosed graph states line))
Stops graph states line at (faults.BadForm n) = ⊥
Stops graph states line at (faults.Entry n) = ⊥
Stops graph states line at faults.Memory = ⊥

pub data Outcome (graph : Graph) (lines : List Line) (states : Annotations)
    : Result (Unit {0}) CertFault → Type 0 where
  all : ((function : ℕ) → EntersAt graph states function)
      → AllByRecursion (Holds graph states) lines → Outcome graph lines states (Ok tt)
  enters_not : (function : ℕ) → IsFirstNotEntered graph states function
      → Outcome graph lines states (Err (faults.Entry function))
  stops : (before : List Line) (line : Line) (behind : List Line) (fault : CertFault)
      → lines ≡ before ++ line ∷ behind → ((function : ℕ) → EntersAt graph states function)
      → AllByRecursion (Holds graph states) before
      → Stops graph states line (length (text_of before)) fault
      → Outcome graph lines states (Err fault)

stopped_not : (graph : Graph) (states : Annotations) (line : Line) (at : ℕ) (fault : CertFault)
    → Stops graph states line at fault → Holds graph states line → ⊥
stopped_not graph states line at (faults.Fails n) (e, fails) hold = fails hold.0
stopped_not graph states line at (faults.Open n) (e, passes, gap) hold = gap hold.1
stopped_not graph states line at (faults.BadForm n) stop hold = stop
stopped_not graph states line at (faults.Entry n) stop hold = stop
stopped_not graph states line at faults.Memory stop hold = stop

one_stop : (graph : Graph) (states : Annotations) (line : Line) (at : ℕ) (a b : CertFault)
    → Stops graph states line at a → Stops graph states line at b → a ≡ b
one_stop graph states line at (faults.Fails m) (faults.Fails n) (e, fails) (f, fails_too) =
    ap faults.Fails (e ∙ sym f)
one_stop graph states line at (faults.Fails m) (faults.Open n) (e, fails) (f, passes, gap) =
    absurd (fails passes)
one_stop graph states line at (faults.Open m) (faults.Fails n) (e, passes, gap) (f, fails) =
    absurd (fails passes)
one_stop graph states line at (faults.Open m) (faults.Open n) (e, passes, gap)
    (f, passes_too, gap_too) =
    ap faults.Open (e ∙ sym f)
one_stop graph states line at (faults.BadForm m) b first second = absurd first
one_stop graph states line at (faults.Entry m) b first second = absurd first
one_stop graph states line at faults.Memory b first second = absurd first
one_stop graph states line at (faults.Fails m) (faults.BadForm n) first second = absurd second
one_stop graph states line at (faults.Fails m) (faults.Entry n) first second = absurd second
one_stop graph states line at (faults.Fails m) faults.Memory first second = absurd second
one_stop graph states line at (faults.Open m) (faults.BadForm n) first second = absurd second
one_stop graph states line at (faults.Open m) (faults.Entry n) first second = absurd second
one_stop graph states line at (faults.Open m) faults.Memory first second = absurd second

-- the first line that doesn't hold
one_split : (P : Line → Type 0) (a b : List Line) (x y : Line) (c d : List Line)
    → AllByRecursion P a → AllByRecursion P b → ¬ (P x) → ¬ (P y)
    → a ++ x ∷ c ≡ b ++ y ∷ d → (a ≡ b) × (x ≡ y)
one_split P [] [] x y c d first second not not_too e = (refl, cc)
one_split P [] (z ∷ b) x y c d first (holds, more) not not_too e =
    let same : z ≡ x = cc in absurd (not (subst P same holds))
one_split P (z ∷ a) [] x y c d (holds, more) second not not_too e =
    let same : z ≡ y = cc in absurd (not_too (subst P same holds))
one_split P (z ∷ a) (w ∷ b) x y c d (holds, more) (holds_too, more_too) not not_too e =
    let head : z ≡ w = cc in
    let tail : a ++ x ∷ c ≡ b ++ y ∷ d = cc in
    let h = one_split P a b x y c d more more_too not not_too tail in
    (ap (λ l. l ∷ a) head ∙ ap (λ ls. w ∷ ls) h.0, h.1)

middle_holds : (P : Line → Type 0) (a : List Line) (x : Line) (c : List Line)
    → AllByRecursion P (a ++ x ∷ c) → P x
middle_holds P [] x c (holds, more) = holds
middle_holds P (z ∷ a) x c (holds, more) = middle_holds P a x c more

module _ (graph : Graph) (lines : List Line) (states : Annotations) where
  pub one_outcome : (a b : Result (Unit {0}) CertFault) → Outcome graph lines states a
      → Outcome graph lines states b → a ≡ b
  one_outcome _ _ (all enters hold) (all enters_too hold_too) = refl
  one_outcome _ _ (all enters hold) (enters_not function first) =
      absurd (first.not_entered (enters function))
  one_outcome _ _ (all enters hold) (stops before line behind fault e enters_too hold_too stop) =
      absurd (stopped_not graph states line (length (text_of before)) fault stop
      (middle_holds (Holds graph states) before line behind
      (subst (AllByRecursion (Holds graph states)) e hold)))
  one_outcome _ _ (enters_not function first) (all enters hold) =
      absurd (first.not_entered (enters function))
  one_outcome _ _ (enters_not m first) (enters_not n second) = elim (cases_order m n) [
    | inl e ↦ ap (λ k. Err (faults.Entry k)) e
    | inr (inl below) ↦ absurd (first.not_entered (second.least m below))
    | inr (inr above) ↦ absurd (second.not_entered (first.least n above))
  ]
  one_outcome _ _ (enters_not function first)
      (stops before line behind fault e enters hold stop) =
      absurd (first.not_entered (enters function))
  one_outcome _ _ (stops before line behind fault e enters hold stop) (all enters_too hold_too) =
      absurd (stopped_not graph states line (length (text_of before)) fault stop
      (middle_holds (Holds graph states) before line behind
      (subst (AllByRecursion (Holds graph states)) e hold_too)))
  one_outcome _ _ (stops before line behind fault e enters hold stop) (enters_not function first) =
      absurd (first.not_entered (enters function))
  one_outcome _ _ (stops before line behind fault e enters hold stop)
      (stops before_too line_too behind_too fault_too e_too enters_too hold_too stop_too) =
      let h = one_split (Holds graph states) before before_too line line_too behind behind_too
      hold hold_too (stopped_not graph states line (length (text_of before)) fault stop)
      (stopped_not graph states line_too (length (text_of before_too)) fault_too stop_too)
      (sym e ∙ e_too) in
      ap (λ f. Err f) (one_stop graph states line (length (text_of before)) fault fault_too stop
      (subst (λ l. Stops graph states l (length (text_of before)) fault_too) (sym h.1)
      (subst (λ ls. Stops graph states line_too (length (text_of ls)) fault_too) (sym h.0)
      stop_too)))

-- ---- what is said of copies of a reading
abbrev pub AreCopied : Graph → Annotations → Annotations → Type 0
AreCopied graph a b = (n : ℕ) (body : Function) → slice_get graph.functions n ≡ Some body
    → IsCopiedAll (states_of a n) (states_of b n)

enters_copied : (graph : Graph) (a b : Annotations) → AreCopied graph a b → (n : ℕ)
    → EntersAt graph a n → EntersAt graph b n
enters_copied graph a b copies n at body is =
    let h = at body is in
    record {
      entry = h.entry;
      is_entry = h.is_entry;
      within = below_copied (states_of a n) (states_of b n) (copies n body is) 0 h.entry h.within;
    }

module _ (graph : Graph) (a b : Annotations) (forth : AreCopied graph a b)
    (back : AreCopied graph b a) where
  line_passes_copied : (line : Line) → LinePasses graph a line → LinePasses graph b line
  line_passes_copied line passes body is =
      passes_copied (setting_of graph body) (states_of a line.function) (states_of b line.function)
      (back line.function body is) line.block (passes body is)

  line_closed_copied : (line : Line) → LineIsClosed graph a line → LineIsClosed graph b line
  line_closed_copied line closed body is =
      closed_copied (setting_of graph body) (states_of a line.function) (states_of b line.function)
      (forth line.function body is) (back line.function body is) line.block (closed body is)

  holds_copied : (lines : List Line) → AllByRecursion (Holds graph a) lines
      → AllByRecursion (Holds graph b) lines
  holds_copied [] are = tt
  holds_copied (line ∷ lines) ((passes, closed), more) = (
    (line_passes_copied line passes, line_closed_copied line closed),
    holds_copied lines more,
  )

stops_copied : (graph : Graph) (a b : Annotations) → AreCopied graph a b → AreCopied graph b a
    → (line : Line) (at : ℕ) (fault : CertFault) → Stops graph a line at fault
    → Stops graph b line at fault
stops_copied graph a b forth back line at (faults.Fails n) (e, fails) =
    (e, λ passes. fails (line_passes_copied graph b a back forth line passes))
stops_copied graph a b forth back line at (faults.Open n) (e, passes, gap) = (
  e,
  line_passes_copied graph a b forth back line passes,
  λ closed. gap (line_closed_copied graph b a back forth line closed),
)
stops_copied graph a b forth back line at (faults.BadForm n) stop = stop
stops_copied graph a b forth back line at (faults.Entry n) stop = stop
stops_copied graph a b forth back line at faults.Memory stop = stop

pub outcome_copied : (graph : Graph) (lines : List Line) (a b : Annotations) → AreCopied graph a b
    → AreCopied graph b a → (r : Result (Unit {0}) CertFault) → Outcome graph lines a r
    → Outcome graph lines b r
outcome_copied graph lines a b forth back _ (all enters hold) =
    all (λ n. enters_copied graph a b forth n (enters n))
    (holds_copied graph a b forth back lines hold)
outcome_copied graph lines a b forth back _ (enters_not n first) = enters_not n (record {
  not_entered = λ at. first.not_entered (enters_copied graph b a back n at);
  least = λ other below. enters_copied graph a b forth other (first.least other below);
})
outcome_copied graph lines a b forth back _ (stops before line behind fault e enters hold stop) =
    stops before line behind fault e (λ n. enters_copied graph a b forth n (enters n))
    (holds_copied graph a b forth back before hold)
    (stops_copied graph a b forth back line (length (text_of before)) fault stop)
