-- The parts of values that may cross between isolations, and the kinds of cells that may (SE-0302).
use Rattle.std.specs.Option.{option_map, option_map_or}
use Rattle.std.specs.List.{slice_get, list_all}
use Rattle.std.proofs.Common.{◌≡◌, ℕ, zero, suc, Bool, true, false, List, [], ◌∷◌, map, flat_map}
use Rattle.std.proofs.Common.{Option, Some, None, refl, sym, subst, ap, ◌∙◌, inl, inr, ◌⊎◌}
use Rattle.std.proofs.lemmas.Bool.{and_parts, or_cases}
use Rattle.std.proofs.lemmas.Option.{slice_get-map}
use Rattle.std.proofs.lemmas.List.Folds.{list_all-append}
use Rattle.sw_list.proofs.ListLemmas.{some_injective}
use Rattle.sw_list.proofs.Members.{all_at}
use Rattle.sw_types.specs.declared.isolation.Iso.TheVariants.{Free}
use Rattle.sw_types.specs.declared.shape.CaseShape.{CaseShape}
use Rattle.sw_types.specs.declared.shape.Part.{Part}
use Rattle.sw_types.specs.declared.shape.Shape.{Shape}
use Rattle.sw_types.specs.declared.shape.ShapeKind.{ShapeKind}
use Rattle.sw_types.specs.declared.shape.ShapeKind.TheVariants as shape_kind
use Rattle.sw_types.specs.declared.ty.Ty.{Ty, out-Ty}
use Rattle.sw_types.specs.declared.ty.Ty.TheOpen as type
use Rattle.sw_types.specs.Accepts.{layer_is_marked, unmarked_layer}
use Rattle.sw_types.specs.Held.{types_in, part_types, is_value}
use Rattle.sw_types.specs.Sendable.{layer_sends, kind_sends, sends_at}
use Rattle.sw_graph.specs.declared.function.Function.{Function}
use Rattle.sw_graph.specs.declared.function.RegKind.{RegKind}
use Rattle.sw_graph.specs.declared.function.RegKind.TheVariants.{Plain, BoxOf}
use Rattle.sw_graph.specs.declared.graph.Graph.{Graph}
use Rattle.sw_graph.specs.Clean.{may_cross, is_untracked, is_marked_kind}
use Rattle.sw_graph.specs.Kinds.{IsCaptured, form_of, box_content, is_struct, is_enum, parts}
use Rattle.sw_graph.specs.Kinds.{payload}
use Rattle.sw_region_ops.specs.Calls.{is_isolated}
use Rattle.sw_machine_kind_facts.proofs.KindLemmas.{layers_accept}
use Rattle.sw_reach_facts.specs.Coloured.{runs_isolated, ConformancesHold}
use Rattle.sw_reach_facts.proofs.ShapeLemmas.{sends_down}

pub named_crosses : (graph : Graph) (kind : RegKind) (k : ℕ)
    → form_of (Some kind) ≡ Some (type.Named k) → is_untracked graph (Some kind) ≡ true
    → sends_at graph.shapes k ≡ true
named_crosses graph (Plain ty) k form is =
    sym (ap (layer_sends (sends_at graph.shapes)) (some_injective form)) ∙ is
named_crosses graph (BoxOf ty) k form is = cc

pub value_crosses : (graph : Graph) → ConformancesHold graph → (k : ℕ) (shape : Shape)
    → slice_get graph.shapes k ≡ Some shape → is_value shape.kind ≡ true
    → sends_at graph.shapes k ≡ true → list_all (may_cross graph) (types_in shape) ≡ true
value_crosses graph conform k shape at value sends =
    by shape.kind refl value (sends_down graph.shapes k shape at sends) where
      either : (shape.conforms ≡ true) ⊎ (list_all (may_cross graph) (types_in shape) ≡ true)
          → list_all (may_cross graph) (types_in shape) ≡ true
      either (inl conforms) = conform k shape at value conforms
      either (inr all) = all

      by : (kind : ShapeKind) → shape.kind ≡ kind → is_value kind ≡ true
          → kind_sends kind shape (list_all (may_cross graph) (types_in shape)) ≡ true
          → list_all (may_cross graph) (types_in shape) ≡ true
      by shape_kind.Struct is v s =
          either (or_cases shape.conforms (list_all (may_cross graph) (types_in shape)) s)
      by shape_kind.Enum is v s =
          either (or_cases shape.conforms (list_all (may_cross graph) (types_in shape)) s)
      by shape_kind.Class is v s = cc
      by shape_kind.Actor is v s = cc

pub struct_is_value : (kind : ShapeKind) → is_struct kind ≡ true → is_value kind ≡ true
struct_is_value shape_kind.Struct is = refl
struct_is_value shape_kind.Enum is = refl
struct_is_value shape_kind.Class is = cc
struct_is_value shape_kind.Actor is = cc

pub enum_is_value : (kind : ShapeKind) → is_enum kind ≡ true → is_value kind ≡ true
enum_is_value shape_kind.Struct is = refl
enum_is_value shape_kind.Enum is = refl
enum_is_value shape_kind.Class is = cc
enum_is_value shape_kind.Actor is = cc

pub part_crosses : (graph : Graph) (shape : Shape)
    → list_all (may_cross graph) (types_in shape) ≡ true → (kinds : List RegKind)
    → parts (Some shape) ≡ Some kinds → (i : ℕ) (kind : RegKind) → slice_get kinds i ≡ Some kind
    → is_untracked graph (Some kind) ≡ true
part_crosses graph shape all kinds are i kind at =
    by (slice_get shape.parts i) refl
    (sym (slice_get-map (λ (part : Part). Plain part.ty) shape.parts i)
    ∙ ap (λ l. slice_get l i) (some_injective are) ∙ at) where
      all_parts : list_all (may_cross graph) (part_types shape) ≡ true
      all_parts = (and_parts (list_all (may_cross graph) (part_types shape))
          (list_all (may_cross graph) (flat_map (λ (one : CaseShape). one.payload) shape.cases))
          (sym (list_all-append (may_cross graph) (part_types shape)
          (flat_map (λ (one : CaseShape). one.payload) shape.cases)) ∙ all)).0

      by : (o : Option Part) → slice_get shape.parts i ≡ o
          → option_map (λ (part : Part). Plain part.ty) o ≡ Some kind
          → is_untracked graph (Some kind) ≡ true
      by None e is = cc
      by (Some part) e is =
          subst (λ k. is_untracked graph (Some k) ≡ true) (some_injective is)
          (all_at (may_cross graph) (part_types shape) i part.ty all_parts
          (slice_get-map (λ (p : Part). p.ty) shape.parts i
          ∙ ap (option_map (λ (p : Part). p.ty)) e))

all_flat : (p : Ty → Bool) (cases : List CaseShape) (i : ℕ) (one : CaseShape)
    → list_all p (flat_map (λ (one : CaseShape). one.payload) cases) ≡ true
    → slice_get cases i ≡ Some one → list_all p one.payload ≡ true
all_flat p [] i one all at = cc
all_flat p (c ∷ cases) i one all at =
    by i at (and_parts (list_all p c.payload)
    (list_all p (flat_map (λ (one : CaseShape). one.payload) cases))
    (sym (list_all-append p c.payload (flat_map (λ (one : CaseShape). one.payload) cases)) ∙ all))
    (λ k. all_flat p cases k one) where
      by : (i : ℕ) → slice_get (c ∷ cases) i ≡ Some one
          → (list_all p c.payload ≡ true)
          × (list_all p (flat_map (λ (one : CaseShape). one.payload) cases) ≡ true)
          → ((k : ℕ) → list_all p (flat_map (λ (one : CaseShape). one.payload) cases) ≡ true
          → slice_get cases k ≡ Some one → list_all p one.payload ≡ true)
          → list_all p one.payload ≡ true
      by zero at both more =
          subst (λ (x : CaseShape). list_all p x.payload ≡ true) (some_injective at) both.0
      by (suc k) at both more = more k both.1 at

pub payload_crosses : (graph : Graph) (shape : Shape)
    → list_all (may_cross graph) (types_in shape) ≡ true → (tag : ℕ) (kinds : List RegKind)
    → payload (Some shape) tag ≡ Some kinds → (i : ℕ) (kind : RegKind)
    → slice_get kinds i ≡ Some kind → is_untracked graph (Some kind) ≡ true
payload_crosses graph shape all tag kinds are i kind at =
    by (slice_get shape.cases tag) refl are where
      all_cases : list_all (may_cross graph)
          (flat_map (λ (one : CaseShape). one.payload) shape.cases) ≡ true
      all_cases = (and_parts (list_all (may_cross graph) (part_types shape))
          (list_all (may_cross graph) (flat_map (λ (one : CaseShape). one.payload) shape.cases))
          (sym (list_all-append (may_cross graph) (part_types shape)
          (flat_map (λ (one : CaseShape). one.payload) shape.cases)) ∙ all)).1

      pick : (one : CaseShape) → list_all (may_cross graph) one.payload ≡ true → (o : Option Ty)
          → slice_get one.payload i ≡ o → option_map Plain o ≡ Some kind
          → is_untracked graph (Some kind) ≡ true
      pick one crosses None e is = cc
      pick one crosses (Some ty) e is =
          subst (λ k. is_untracked graph (Some k) ≡ true) (some_injective is)
          (all_at (may_cross graph) one.payload i ty crosses e)

      by : (o : Option CaseShape) → slice_get shape.cases tag ≡ o
          → option_map (λ (one : CaseShape). map Plain one.payload) o ≡ Some kinds
          → is_untracked graph (Some kind) ≡ true
      by None e is = cc
      by (Some one) e is =
          pick one (all_flat (may_cross graph) shape.cases tag one all_cases e)
          (slice_get one.payload i) refl
          (sym (slice_get-map Plain one.payload i) ∙ ap (λ l. slice_get l i) (some_injective is)
          ∙ at)

named_layer : (l : type.Ty-F Ty) (k : ℕ) → type.Named k ≡ unmarked_layer l → l ≡ type.Named k
named_layer (type.Func sendable params result) k e = cc
named_layer (type.Named j) k e = sym e
named_layer type.Int k e = cc
named_layer type.Bool k e = cc
named_layer type.Unit k e = cc
named_layer (type.Task inner) k e = cc

func_sends : (named : ℕ → Bool) (l : type.Ty-F Ty) (ps : List Ty) (result : Ty)
    → type.Func false ps result ≡ unmarked_layer l → layer_sends named l ≡ true
    → layer_is_marked l ≡ true
func_sends named (type.Func sendable params result) ps gives e is = is
func_sends named (type.Named j) ps gives e is = cc
func_sends named type.Int ps gives e is = cc
func_sends named type.Bool ps gives e is = cc
func_sends named type.Unit ps gives e is = cc
func_sends named (type.Task inner) ps gives e is = cc

pub captured_named : (a b : RegKind) (k : ℕ) → IsCaptured (Some a) (Some b)
    → form_of (Some a) ≡ Some (type.Named k) → form_of (Some b) ≡ Some (type.Named k)
captured_named (Plain a) (Plain b) k goes form =
    ap Some (named_layer (out-Ty b) k
    (sym (ap unmarked_layer (some_injective form)) ∙ layers_accept a b goes))
captured_named (Plain a) (BoxOf b) k goes form = absurd goes
captured_named (BoxOf a) b k goes form = cc

pub captured_marked : (graph : Graph) (a b : RegKind) (marked : Bool) (ps : List Ty) (result : Ty)
    → IsCaptured (Some a) (Some b) → form_of (Some a) ≡ Some (type.Func marked ps result)
    → is_untracked graph (Some b) ≡ true → is_marked_kind (Some a) ≡ true
captured_marked graph (Plain a) (Plain b) marked ps result goes form crosses =
    goes.1 (func_sends (sends_at graph.shapes) (out-Ty b) ps result
    (sym (ap unmarked_layer (some_injective form)) ∙ layers_accept a b goes) crosses)
captured_marked graph (Plain a) (BoxOf b) marked ps result goes form crosses = absurd goes
captured_marked graph (BoxOf a) b marked ps result goes form crosses = cc

pub boxes_stay : (graph : Graph) (a b inner : RegKind) → IsCaptured (Some a) (Some b)
    → box_content (Some a) ≡ Some inner → is_untracked graph (Some b) ≡ true → ⊥
boxes_stay graph (Plain a) b inner goes is crosses = cc
boxes_stay graph (BoxOf a) (Plain b) inner goes is crosses = goes
boxes_stay graph (BoxOf a) (BoxOf b) inner goes is crosses = cc

pub free_runs : (graph : Graph) (f : ℕ) (function : Function)
    → slice_get graph.functions f ≡ Some function → function.iso ≡ Free
    → runs_isolated graph f ≡ false
free_runs graph f function is free =
    ap (λ o. option_map_or (λ (function : Function). is_isolated function.iso) o false) is
    ∙ ap is_isolated free
