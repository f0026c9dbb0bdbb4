-- The start fits.
use Rattle.std.proofs.Common.{◌≡◌, ℕ, zero, suc, ◌+◌, ◌<◌, inl, inr, Option, Some, None, List, []}
use Rattle.std.proofs.Common.{◌∷◌, ◌++◌, length, take, reverse, replicate, refl, ap, sym, ◌∙◌}
use Rattle.std.proofs.Common.{subst}
use Rattle.std.proofs.Common.{arith}
use Rattle.std.specs.List.{slice_get, filter_map, cons_option, Contains}
use Rattle.std.proofs.lemmas.List.{length-map, length-replicate, append-nil, append_assoc}
use Rattle.std.proofs.lemmas.Option.{slice_get_within, get_or_from_slice_get}
use mathlib.Core.List.{reverse-cons}
use Rattle.sw_list.proofs.ListLemmas.{some_injective, at_index, slice_get_before}
use Rattle.sw_types.specs.declared.isolation.Iso.{Iso}
use Rattle.sw_types.specs.declared.isolation.Iso.TheVariants as iso
use Rattle.sw_types.specs.declared.ty.Ty.{Ty}
use Rattle.sw_graph.specs.declared.function.Function.{Function}
use Rattle.sw_graph.specs.declared.function.GlobalKind.{GlobalKind}
use Rattle.sw_graph.specs.declared.function.RegKind.TheVariants.{Plain}
use Rattle.sw_graph.specs.declared.graph.Graph.{Graph}
use Rattle.sw_graph.specs.Kinds.{taken}
use Rattle.sw_graph.specs.Placed.{IsFirst, IsFreeOrGlobal, GivesFirst, starts}
use Rattle.sw_graph.specs.Ways.{begin, Way}
use Rattle.sw_value.specs.declared.frame.Frame.{Frame}
use Rattle.sw_value.specs.declared.job.Job.{Job}
use Rattle.sw_value.specs.declared.value.Value.{Value}
use Rattle.sw_value.specs.Frame.{first_frame}
use Rattle.sw_value.specs.Job.{new_job}
use Rattle.sw_value.specs.Start.{start_frames, start_of}
use Rattle.sw_value.specs.Value.{value_at}
use Rattle.sw_value.proofs.ListLemmas.{slice_get_end}
use Rattle.sw_machine_kind_facts.specs.FirstValues.{IsBeginning}
use Rattle.sw_machine_kind_facts.specs.Kinded.{StateFits, Kinded}
use Rattle.sw_machine_kind_facts.specs.Standing.{StackFits, bottom, above, JobFits, goes}
use Rattle.sw_graph.specs.Supplied.{IsSupplied}
use Rattle.sw_machine_kind_facts.proofs.BeginLemmas.{FirstBegins, first_begins}
use Rattle.sw_machine_kind_facts.proofs.ItemLemmas.{at_end, found_within}

-- an item of a list, and of the list from its end
record IsIn {A : Type 0} (xs : List A) (x : A) : Type 0 where
  index : ℕ
  is : slice_get xs index ≡ Some x

in_first : {A : Type 0} (xs ys : List A) (x : A) → IsIn xs x → IsIn (xs ++ ys) x
in_first xs ys x found =
    record { index = found.index; is = slice_get_before xs ys found.index x found.is }

in_end : {A : Type 0} (xs : List A) (x : A) → IsIn (xs ++ x ∷ []) x
in_end xs x = record { index = length xs; is = slice_get_end xs x }

in_reverse : {A : Type 0} (xs : List A) (k : ℕ) (x : A) → slice_get xs k ≡ Some x
    → IsIn (reverse xs) x
in_reverse [] k x e = absurd (let wrong : ⊥ = cc in wrong)
in_reverse (y ∷ ys) zero x e =
    subst (λ l. IsIn l x) (sym (reverse-cons y ys))
    (subst (λ z. IsIn (reverse ys ++ z ∷ []) x) (sym (some_injective e)) (in_end (reverse ys) x))
in_reverse (y ∷ ys) (suc k) x e =
    subst (λ l. IsIn l x) (sym (reverse-cons y ys))
    (in_first (reverse ys) (y ∷ []) x (in_reverse ys k x e))

from_reverse : {A : Type 0} (xs : List A) (k : ℕ) (x : A) → slice_get (reverse xs) k ≡ Some x
    → IsIn xs x
from_reverse [] k x e = absurd (let wrong : ⊥ = cc in wrong)
from_reverse (y ∷ ys) k x e =
    elim (at_end (reverse ys) y x k (ap (λ l. slice_get l k) (sym (reverse-cons y ys)) ∙ e)) [
      | inl before ↦ let found = from_reverse ys k x before in
          record { index = suc found.index; is = found.is }
      | inr (at, is) ↦ record { index = 0; is = ap Some (sym is) }
    ]

contains : {A : Type 0} (xs : List A) (x : A) → IsIn xs x → Contains xs x
contains xs x found = (
  found.index,
  slice_get_within xs found.index x found.is,
  get_or_from_slice_get xs found.index x x found.is,
)

-- a function that begins as the entry or a first-value function
record IsOpening (graph : Graph) (number : ℕ) : Type 0 where
  function : Function
  is : slice_get graph.functions number ≡ Some function
  first : IsFirst function

no_self : (i : Iso) → IsFreeOrGlobal i → i ≡ iso.Own → ⊥
no_self iso.Free free own = cc
no_self (iso.Global g) free own = cc
no_self iso.Own free own = free
no_self iso.Caller free own = cc

opens : (graph : Graph) (number : ℕ) → (o : IsOpening graph number)
    → FirstBegins graph [] number o.function []
opens graph number o =
    first_begins graph [] number o.function o.is []
    (record {
      count = sym (ap length nothing);
      each = λ i w k here at. cc;
    }) (λ own. absurd (no_self o.function.iso o.first.iso own)) where
      nothing : taken o.function ≡ []
      nothing = ap (λ n. take n o.function.regs) o.first.takes

begins_of : Graph → ℕ → Option Frame
begins_of graph number = first_frame graph number []

-- frames for some such functions, one on another
record IsStacked (graph : Graph) (frames : List Frame) (result : Ty) : Type 0 where
  below : List Frame
  top : Frame
  are : frames ≡ below ++ top ∷ []
  stack : (awaits : Option ℕ) → StackFits graph [] below top awaits result

stacked : (graph : Graph) (ns : List ℕ)
    → ((k f : ℕ) → slice_get ns k ≡ Some f → IsOpening graph f) → (below : List Frame) (top : Frame)
    (result : Ty) → ((awaits : Option ℕ) → StackFits graph [] below top awaits result)
    → IsStacked graph ((below ++ top ∷ []) ++ filter_map (begins_of graph) ns) result
unfolding begins_of
stacked graph [] all below top result stack = record {
  below = below;
  top = top;
  are = append-nil (below ++ top ∷ []);
  stack = stack;
}
stacked graph (n ∷ ns) all below top result stack =
    let begins = opens graph n (all 0 n refl) in
    let frame = begins.frame in
    let rest = stacked graph ns (λ k f is. all (suc k) f is) (below ++ top ∷ []) frame result
    (λ awaits. above (below ++ top ∷ []) frame awaits result below top refl
    (stack (Some frame.result)) (begins.begins.fits awaits)
    (λ function there. inl begins.begins.result_is)) in
    record {
      below = rest.below;
      top = rest.top;
      are = ap (λ o. (below ++ top ∷ []) ++ cons_option o (filter_map (begins_of graph) ns))
          begins.is
          ∙ sym (append_assoc (below ++ top ∷ []) (frame ∷ []) (filter_map (begins_of graph) ns))
          ∙ rest.are;
      stack = rest.stack;
    }

-- the frame of each such function
record IsOpened (frames : List Frame) (k f : ℕ) : Type 0 where
  frame : Frame
  here : slice_get frames k ≡ Some frame
  function : frame.function ≡ f
  point : frame.point ≡ 0

opened : (graph : Graph) (ns : List ℕ)
    → ((k f : ℕ) → slice_get ns k ≡ Some f → IsOpening graph f) → (k f : ℕ)
    → slice_get ns k ≡ Some f → IsOpened (filter_map (begins_of graph) ns) k f
unfolding begins_of
opened graph [] all k f is = absurd (let wrong : ⊥ = cc in wrong)
opened graph (n ∷ ns) all zero f is =
    let begins = opens graph n (all 0 n refl) in
    record {
      frame = begins.frame;
      here = ap (λ o. slice_get (cons_option o (filter_map (begins_of graph) ns)) 0) begins.is;
      function = begins.begins.number_is ∙ some_injective is;
      point = begins.begins.point_is;
    }
opened graph (n ∷ ns) all (suc k) f is =
    let begins = opens graph n (all 0 n refl) in
    let rest = opened graph ns (λ j g at. all (suc j) g at) k f is in
    record {
      frame = rest.frame;
      here = ap (λ o. slice_get (cons_option o (filter_map (begins_of graph) ns)) (suc k)) begins.is
          ∙ rest.here;
      function = rest.function;
      point = rest.point;
    }

-- the function of each frame
record IsOfNumber (ns : List ℕ) (k : ℕ) (frame : Frame) : Type 0 where
  number : ℕ
  is : slice_get ns k ≡ Some number
  function : frame.function ≡ number

of_number : (graph : Graph) (ns : List ℕ)
    → ((k f : ℕ) → slice_get ns k ≡ Some f → IsOpening graph f) → (k : ℕ) (frame : Frame)
    → slice_get (filter_map (begins_of graph) ns) k ≡ Some frame → IsOfNumber ns k frame
unfolding begins_of
of_number graph [] all k frame here = absurd (let wrong : ⊥ = cc in wrong)
of_number graph (n ∷ ns) all k frame here =
    let begins = opens graph n (all 0 n refl) in
    at_index_of k (ap (λ o. slice_get (cons_option o (filter_map (begins_of graph) ns)) k)
    (sym begins.is) ∙ here) (λ j is. of_number graph ns (λ i g at. all (suc i) g at) j frame is)
  where
    at_index_of : (k : ℕ)
        → slice_get ((opens graph n (all 0 n refl)).frame ∷ filter_map (begins_of graph) ns) k
        ≡ Some frame
        → ((j : ℕ) → slice_get (filter_map (begins_of graph) ns) j ≡ Some frame
        → IsOfNumber ns j frame) → IsOfNumber (n ∷ ns) k frame
    at_index_of zero here later = record {
      number = n;
      is = refl;
      function = ap (λ (f : Frame). f.function) (sym (some_injective here))
          ∙ (opens graph n (all 0 n refl)).begins.number_is;
    }
    at_index_of (suc j) here later = let rest = later j here in
        record { number = rest.number; is = rest.is; function = rest.function }

-- the entry and the first-value functions
entry_opens : (graph : Graph) → IsSupplied graph → IsOpening graph graph.entry
entry_opens graph supplied =
    let found = found_within graph.functions graph.entry graph.well_formed.entry_in in
    record { function = found.0; is = found.1; first = supplied.begins.entry found.0 found.1 }

start_opens : (graph : Graph) → IsSupplied graph → (k f : ℕ)
    → slice_get (reverse graph.starts) k ≡ Some f → IsOpening graph f
start_opens graph supplied k f is =
    let from = from_reverse graph.starts k f is in
    let inside = at_index (λ n. n < length graph.functions) graph.starts from.index f
    graph.well_formed.starts_in from.is in
    let found = found_within graph.functions f inside in
    record {
      function = found.0;
      is = found.1;
      first = supplied.begins.firsts f (contains graph.starts f from) found.0 found.1;
    }

empty_slots : (count k : ℕ) (v : Value) → value_at (replicate count None) k ≡ Some v → ⊥
empty_slots zero k v e = cc
empty_slots (suc count) zero v e = cc
empty_slots (suc count) (suc k) v e = empty_slots count k v e

-- the frames at the start: the entry, and the first-value functions above it
start_are : (graph : Graph) (supplied : IsSupplied graph)
    → start_frames graph ≡ (opens graph graph.entry (entry_opens graph supplied)).frame
    ∷ filter_map (begins_of graph) (reverse graph.starts)
unfolding start_frames begins_of
start_are graph supplied =
    ap (λ o. cons_option o (filter_map (begins_of graph) (reverse graph.starts)))
    (opens graph graph.entry (entry_opens graph supplied)).is

start_stacked : (graph : Graph) (supplied : IsSupplied graph)
    → IsStacked graph (start_frames graph) (entry_opens graph supplied).function.result
start_stacked graph supplied =
    let entry = opens graph graph.entry (entry_opens graph supplied) in
    let stack = stacked graph (reverse graph.starts) (start_opens graph supplied) [] entry.frame
    (entry_opens graph supplied).function.result
    (λ awaits. bottom [] entry.frame awaits (entry_opens graph supplied).function.result refl
    (entry.begins.fits awaits)
    (ap (λ (f : Function). f.result) (entry.begins.same awaits))) in
    record {
      below = stack.below;
      top = stack.top;
      are = start_are graph supplied ∙ stack.are;
      stack = stack.stack;
    }

start_fits : (graph : Graph) (supplied : IsSupplied graph)
    → StateFits graph (record {
      cells = [];
      results = (entry_opens graph supplied).function.result ∷ [];
    }) (start_of graph)
unfolding start_of new_job
start_fits graph supplied = record {
  cell_count = refl;
  job_count = refl;
  cells = λ c cell kind here there. absurd (let wrong : ⊥ = cc in wrong);
  globals = record {
    count = length-replicate {A = Option Value} (length graph.globals) None
        ∙ sym (length-map graph.globals (λ (global : GlobalKind). Plain global.ty));
    each = λ r v kind here there. absurd (empty_slots (length graph.globals) r v here);
  };
  jobs = λ j job result here there. by j job result here there;
} where
  by : (j : ℕ) (job : Job) (result : Ty)
      → slice_get (new_job (start_frames graph) ∷ []) j ≡ Some job
      → slice_get ((entry_opens graph supplied).function.result ∷ []) j ≡ Some result
      → JobFits graph (record {
        cells = [];
        results = (entry_opens graph supplied).function.result ∷ [];
      }) job result
  by zero job result here there =
      let stack = start_stacked graph supplied in
      subst (λ x. JobFits graph (record {
        cells = [];
        results = (entry_opens graph supplied).function.result ∷ [];
      }) x result) (some_injective here)
      (goes (new_job (start_frames graph)) result stack.below stack.top stack.are
      (subst (λ t. StackFits graph [] stack.below stack.top None t) (some_injective there)
      (stack.stack None)) tt)
  by (suc j) job result here there = absurd (let wrong : ⊥ = cc in wrong)

start_begins : (graph : Graph) → IsSupplied graph → (g : ℕ) → g < length graph.globals
    → IsBeginning graph (start_of graph) g
unfolding start_of new_job
start_begins graph supplied g inside =
    let count = graph.well_formed.first_values in
    let first = found_within graph.starts g (omega (arith, inside, count)) in
    let reversed = in_reverse graph.starts g first.0 first.1 in
    let frame = opened graph (reverse graph.starts) (start_opens graph supplied) reversed.index
    first.0 reversed.is in
    let opening = start_opens graph supplied reversed.index first.0 reversed.is in
    record {
      job = new_job (start_frames graph);
      alone = refl;
      firsts = λ i other here. let of = of_number graph (reverse graph.starts)
          (start_opens graph supplied) i other (next_of i other here) in
          subst (GivesFirst graph) (sym of.function)
          (starts of.number (contains graph.starts of.number
          (from_reverse graph.starts i of.number of.is)));
      closures = λ c f captures here. absurd (let wrong : ⊥ = cc in wrong);
      index = reversed.index;
      frame = frame.frame;
      here = below reversed.index frame.frame frame.here;
      due = record {
        function = opening.function;
        is = ap (slice_get graph.functions) frame.function ∙ opening.is;
        stores = supplied.globals.values g first.0 first.1 opening.function opening.is;
        passed = [];
        way = subst (λ p. Way opening.function p []) (sym frame.point) begin;
        not_yet = refl;
      };
    } where
      next_is : (i : ℕ) → suc i ≡ i + 1
      next_is i = omega arith

      next_of : (i : ℕ) (other : Frame) → slice_get (start_frames graph) (i + 1) ≡ Some other
          → slice_get (filter_map (begins_of graph) (reverse graph.starts)) i ≡ Some other
      next_of i other here =
          ap (slice_get (_ ∷ filter_map (begins_of graph) (reverse graph.starts))) (next_is i)
          ∙ ap (λ l. slice_get l (i + 1)) (sym (start_are graph supplied)) ∙ here

      below : (i : ℕ) (other : Frame)
          → slice_get (filter_map (begins_of graph) (reverse graph.starts)) i ≡ Some other
          → slice_get (start_frames graph) (i + 1) ≡ Some other
      below i other here =
          ap (λ l. slice_get l (i + 1)) (start_are graph supplied)
          ∙ ap (slice_get (_ ∷ filter_map (begins_of graph) (reverse graph.starts)))
          (sym (next_is i)) ∙ here

pub start_kinded : (graph : Graph) → IsSupplied graph → Kinded graph (start_of graph)
start_kinded graph supplied = record {
  world = record { cells = []; results = (entry_opens graph supplied).function.result ∷ [] };
  fits = start_fits graph supplied;
  firsts = λ g inside. inr (start_begins graph supplied g inside);
}
