-- What fits goes on to fit where there are more cells and jobs.
use Rattle.std.proofs.Common.{ℕ, Option, Some, List, ◌++◌, ◌∷◌, []}
use Rattle.sw_list.proofs.ListLemmas.{slice_get_before}
use Rattle.sw_types.specs.declared.shape.Shape.{Shape}
use Rattle.sw_types.specs.declared.ty.Ty.{Ty}
use Rattle.sw_graph.specs.declared.function.Function.{Function}
use Rattle.sw_graph.specs.declared.function.RegKind.{RegKind}
use Rattle.sw_graph.specs.declared.function.RegKind.TheVariants.{Plain}
use Rattle.sw_graph.specs.declared.graph.Graph.{Graph}
use Rattle.sw_value.specs.declared.value.Value.{Value}
use Rattle.sw_value.specs.declared.cell.HeapCell.{HeapCell}
use Rattle.sw_value.specs.declared.cell.HeapCell.TheVariants as cell
use Rattle.sw_value.specs.declared.frame.Frame.{Frame}
use Rattle.sw_value.specs.declared.job.Job.{Job}
use Rattle.sw_value.specs.declared.job.Status.{Status}
use Rattle.sw_value.specs.declared.job.Status.TheVariants.{Ready, Running, Waiting, Ended}
use Rattle.sw_machine_kind_facts.specs.Kinds.{HasKind, integer, truth, void, refers, group, choice, HaveKinds}
use Rattle.sw_machine_kind_facts.specs.Kinds.{IsMore, Grows, HavePlaces, SlotsFit, Referents, CellFits}
use Rattle.sw_machine_kind_facts.specs.Standing.{Stands, FrameFits, StackFits, bottom, above, StatusFits}
use Rattle.sw_machine_kind_facts.specs.Standing.{JobFits, over, goes, awaited_in}

pub no_more : {A : Type 0} (xs : List A) → IsMore xs xs
no_more xs k x e = e

pub one_more : {A : Type 0} (xs : List A) (y : A) → IsMore xs (xs ++ y ∷ [])
one_more xs y k x e = slice_get_before xs (y ∷ []) k x e

pub kind_grows : (shapes : List Shape) (cells more : List RegKind) → IsMore cells more
    → (v : Value) (kind : RegKind) → HasKind shapes cells v kind → HasKind shapes more v kind
kind_grows shapes cells more grows v kind (integer w k n is s) = integer w k n is s
kind_grows shapes cells more grows v kind (truth w k b is s) = truth w k b is s
kind_grows shapes cells more grows v kind (void w k is s) = void w k is s
kind_grows shapes cells more grows v kind (refers w k c from is s at may) =
    refers w k c from is s (grows c from at) may
kind_grows shapes cells more grows v kind (group w k vs kinds is s are count each) =
    group w k vs kinds is s are count
    (λ i x j here at. kind_grows shapes cells more grows x j (each i x j here at))
kind_grows shapes cells more grows v kind (choice w k tag vs kinds is s are count each) =
    choice w k tag vs kinds is s are count
    (λ i x j here at. kind_grows shapes cells more grows x j (each i x j here at))

pub have_grows : (shapes : List Shape) (cells more : List RegKind) → IsMore cells more
    → (vs : List Value) (kinds : List RegKind) → HaveKinds shapes cells vs kinds
    → HaveKinds shapes more vs kinds
have_grows shapes cells more grows vs kinds have = record {
  count = have.count;
  each = λ i w k here at. kind_grows shapes cells more grows w k (have.each i w k here at);
}

places_grow : (shapes : List Shape) (cells more : List RegKind) → IsMore cells more
    → (vs : List Value) (places : Option (List RegKind)) → HavePlaces shapes cells vs places
    → HavePlaces shapes more vs places
places_grow shapes cells more grows vs places have = record {
  kinds = have.kinds;
  are = have.are;
  have = have_grows shapes cells more grows vs have.kinds have.have;
}

pub slots_grow : (shapes : List Shape) (cells more : List RegKind) → IsMore cells more
    → (slots : List (Option Value)) (kinds : List RegKind) → SlotsFit shapes cells slots kinds
    → SlotsFit shapes more slots kinds
slots_grow shapes cells more grows slots kinds fits = record {
  count = fits.count;
  each = λ r v kind here at. kind_grows shapes cells more grows v kind (fits.each r v kind here at);
}

pub stands_grow : (shapes : List Shape) (cells more : List RegKind) → IsMore cells more
    → (function : Function) (awaits : Option ℕ) (point : ℕ) (regs : List (Option Value))
    → Stands shapes cells function awaits point regs → Stands shapes more function awaits point regs
stands_grow shapes cells more grows function awaits point regs stands = record {
  place = stands.place;
  front = stands.front;
  constant = stands.constant;
  passed = stands.passed;
  way = stands.way;
  slots = slots_grow shapes cells more grows regs function.regs stands.slots;
  has = stands.has;
}

pub frame_grows : (graph : Graph) (cells more : List RegKind) → IsMore cells more
    → (awaits : Option ℕ) (frame : Frame) → FrameFits graph cells awaits frame
    → FrameFits graph more awaits frame
frame_grows graph cells more grows awaits frame fits = record {
  function = fits.function;
  is = fits.is;
  stands = stands_grow graph.shapes cells more grows fits.function awaits frame.point frame.regs
      fits.stands;
}

pub stack_grows : (graph : Graph) (cells more : List RegKind) → IsMore cells more
    → (below : List Frame) (top : Frame) (awaits : Option ℕ) (result : Ty)
    → StackFits graph cells below top awaits result → StackFits graph more below top awaits result
unfolding frame_grows
stack_grows graph cells more grows below top awaits result (bottom b t a r none fits gives) =
    bottom b t a r none (frame_grows graph cells more grows a t fits) gives
stack_grows graph cells more grows below top awaits result (above b t a r rest lower is stack fits
    links) =
    above b t a r rest lower is
    (stack_grows graph cells more grows rest lower (Some t.result) r stack)
    (frame_grows graph cells more grows a t fits) links

pub grows_itself : (world : Referents) → Grows world world
grows_itself world = record {
  cells = no_more world.cells;
  results = no_more world.results;
}

pub cell_grows : (graph : Graph) (before after : Referents) → Grows before after → (c : HeapCell)
    (kind : RegKind) → CellFits graph before c kind → CellFits graph after c kind
cell_grows graph before after grows (cell.Object k vs) kind fits =
    (fits.0, places_grow graph.shapes before.cells after.cells grows.cells vs _ fits.1)
cell_grows graph before after grows (cell.Actor k vs) kind fits =
    (fits.0, places_grow graph.shapes before.cells after.cells grows.cells vs _ fits.1)
cell_grows graph before after grows (cell.BoxOf v) kind fits = record {
  inner = fits.inner;
  is = fits.is;
  fits = kind_grows graph.shapes before.cells after.cells grows.cells v fits.inner fits.fits;
}
cell_grows graph before after grows (cell.Closure f vs) kind fits = record {
  function = fits.function;
  is = fits.is;
  captured = fits.captured;
  params = fits.params;
  takes = fits.takes;
  have = have_grows graph.shapes before.cells after.cells grows.cells vs fits.captured fits.have;
  sendable = fits.sendable;
  form = fits.form;
  made = record {
    body = fits.made.body;
    at = fits.made.at;
    register = fits.made.register;
    operands = fits.made.operands;
    maker = fits.made.maker;
    given = fits.made.given;
    kinds = fits.made.kinds;
    are = fits.made.are;
    have = have_grows graph.shapes before.cells after.cells grows.cells vs fits.made.kinds
        fits.made.have;
  };
}
cell_grows graph before after grows (cell.TaskOf j) kind fits = record {
  result = fits.result;
  is = grows.results j fits.result fits.is;
  form = fits.form;
  made = fits.made;
}

pub status_grows : (graph : Graph) (before after : Referents) → Grows before after → (top : Frame)
    (status : Status) → StatusFits graph before top status → StatusFits graph after top status
status_grows graph before after grows top Ready fits = tt
status_grows graph before after grows top Running fits = tt
status_grows graph before after grows top (Waiting on r) fits = record {
  result = fits.result;
  is = grows.results on fits.result fits.is;
  goes = fits.goes;
}
status_grows graph before after grows top (Ended v) fits = absurd fits

pub job_grows : (graph : Graph) (before after : Referents) → Grows before after → (job : Job)
    (result : Ty) → JobFits graph before job result → JobFits graph after job result
job_grows graph before after grows job result (over j r v none ended has) =
    over j r v none ended
    (kind_grows graph.shapes before.cells after.cells grows.cells v (Plain r) has)
job_grows graph before after grows job result (goes j r below top are stack status) =
    goes j r below top are
    (stack_grows graph before.cells after.cells grows.cells below top (awaited_in j.status) r stack)
    (status_grows graph before after grows top j.status status)
