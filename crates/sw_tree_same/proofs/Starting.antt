-- The states match with which a program begins.
use Rattle.std.proofs.Common.{◌≡◌, ℕ, suc, ◌<◌, false, Option, Some, None, List, [], ◌∷◌, ◌++◌, length}
use Rattle.std.proofs.Common.{replicate, reverse, take, refl, ap, sym, ◌∙◌, subst, arith}
use Rattle.std.specs.Prelude.{slice_get, option_and_then}
use Rattle.std.specs.List.{AllZip, cons_option, filter_map}
use Rattle.std.proofs.lemmas.List.Elements.{filter_map-append}
use Rattle.std.proofs.lemmas.Option.{get_or_from_slice_get, slice_get_within}
use mathlib.Core.List.{reverse-cons}
use Rattle.sw_list.proofs.ListLemmas.{at_index, some_injective}
use Rattle.sw_types.specs.declared.isolation.Iso.{Iso}
use Rattle.sw_types.specs.declared.isolation.Iso.TheVariants as iso
use Rattle.sw_graph.specs.declared.function.Function.{Function}
use Rattle.sw_graph.specs.declared.graph.Graph.{Graph}
use Rattle.sw_graph.specs.Kinds.{taken}
use Rattle.sw_graph.specs.Placed.{IsFirst, IsFreeOrGlobal}
use Rattle.sw_value.specs.declared.frame.Frame.{Frame}
use Rattle.sw_value.specs.declared.frame.TheConstants.{NO_REGISTER}
use Rattle.sw_value.specs.Frame.{first_frame}
use Rattle.sw_value.specs.Job.{new_job}
use Rattle.sw_value.specs.Start.{start_frames, start_of}
use Rattle.sw_machine_kind_facts.proofs.BeginLemmas.{FirstBegins, first_begins}
use Rattle.sw_machine_kind_facts.proofs.ItemLemmas.{found_within}
use Rattle.sw_spots.specs.Spots.{BeginsAt, BodyStands, HasIso, Program, Stands, taken_bounds}
use Rattle.sw_tree_work.specs.Bodies.{Bodies}
use Rattle.sw_tree_work.specs.Work.{BodyName, TreeBody}
use Rattle.sw_tree_step.specs.Items.{body_begun, started}
use Rattle.sw_tree_step.specs.State.{TreeFrame}
use Rattle.sw_tree_same.specs.Frames.{FramesMatch, Match, wanted_by}
use Rattle.sw_tree_same.specs.States.{Ground, StatesMatch}
use Rattle.sw_tree_same.proofs.Beginning.{BothFirst, task_begins}
use Rattle.sw_tree_same.proofs.Filling.{frame_full}
use Rattle.sw_tree_same.proofs.Stacks.{on_top}

no_self : (how : Iso) → IsFreeOrGlobal how → how ≡ iso.Own → ⊥
no_self iso.Free free own = cc
no_self (iso.Global g) free own = cc
no_self iso.Own free own = free
no_self iso.Caller free own = cc

-- nothing is taken
none_taken : (keys : List ℕ) → 0 ≡ length (taken_bounds 0 [] keys) → keys ≡ []
none_taken [] is = refl
none_taken (key ∷ keys) is = absurd (let no : ⊥ = omega (arith, is) in no)

module _ (p : Program) (graph : Graph) (bodies : Bodies) (ground : Ground p graph bodies) where
  -- the function of the body with a name, with which the machine may begin
  abbrev Opens : BodyName → ℕ → Type 0
  Opens name number = (p.number name ≡ Some number)
      × (function : Function) × (slice_get graph.functions number ≡ Some function) × IsFirst function

  -- The first frames of such a body match.
  record Opened (name : BodyName) (number : ℕ) : Type 0 where
    tree : TreeFrame
    begins : option_and_then body_begun (bodies name) ≡ Some tree
    frame : Frame
    is : first_frame graph number [] ≡ Some frame
    same : Match p graph None tree frame
    gives : tree.gives ≡ false
    result : frame.result ≡ NO_REGISTER

  opened : (name : BodyName) (number : ℕ) → Opens name number → Opened name number
  opened name number opens =
      by (body_begun body) refl
      (subst (BothFirst p graph ground.functions (body_begun body)) first.is
      (task_begins p graph ground.functions number body.iso [] body.work [] [] tt begins)) where
        function : Function
        function = opens.1

        body : TreeBody
        body = (ground.stand name number opens.0).0

        stands : BodyStands p body number
        stands = (ground.stand name number opens.0).2

        nothing : taken function ≡ []
        nothing = ap (λ n. take n function.regs) opens.3.takes

        first : FirstBegins graph [] number function []
        first = first_begins graph [] number function opens.2 []
            (record { count = sym (ap length nothing); each = λ i w k here at. cc })
            (λ own. absurd (no_self function.iso opens.3.iso own))

        same_function : stands.0 ≡ function
        same_function = some_injective (sym stands.1 ∙ ap (λ all. slice_get all number) ground.functions
            ∙ opens.2)

        begins : BeginsAt p number [] [] (HasIso body.iso) (λ g next. Stands p body.work g [] next)
        begins = subst (λ keys. BeginsAt p number [] keys (HasIso body.iso)
            (λ g next. Stands p body.work g [] next))
            (none_taken body.takes (sym opens.3.takes ∙ ap (λ (f : Function). f.takes) (sym same_function)
            ∙ stands.3)) stands

        by : (tree : Option TreeFrame) → body_begun body ≡ tree
            → BothFirst p graph ground.functions tree (Some first.frame) → Opened name number
        by None is both = absurd both
        by (Some tree) is both = record {
          tree = tree;
          begins = ap (option_and_then body_begun) (ground.stand name number opens.0).1 ∙ is;
          frame = first.frame;
          is = first.is;
          same = both.0 (frame_full graph [] first.frame (first.begins.fits None));
          gives = both.1;
          result = both.2;
        }

  abbrev tree_begins : BodyName → Option TreeFrame
  tree_begins name = option_and_then body_begun (bodies name)

  abbrev graph_begins : ℕ → Option Frame
  graph_begins number = first_frame graph number []

  -- one more frame on top
  one_more : (name : BodyName) (number : ℕ) → Opened name number → (trees : List TreeFrame)
      (others : List Frame) → FramesMatch p graph None trees others
      → FramesMatch p graph None (cons_option (tree_begins name) trees)
      (others ++ filter_map graph_begins (number ∷ []))
  one_more name number o trees others are =
      subst (λ first. FramesMatch p graph None (cons_option first trees)
      (others ++ filter_map graph_begins (number ∷ []))) (sym o.begins)
      (subst (λ first. FramesMatch p graph None (o.tree ∷ trees) (others ++ cons_option first []))
      (sym o.is)
      (on_top p graph None o.tree trees others o.frame o.same (λ none. o.result)
      (subst (λ wanted. FramesMatch p graph wanted trees others)
      (ap (λ gives. wanted_by gives o.frame.result) (sym o.gives)) are)))

  all_more : (last : BodyName) (entry : ℕ) → Opens last entry → (names : List BodyName)
      (numbers : List ℕ) → AllZip Opens names numbers
      → FramesMatch p graph None (filter_map tree_begins (names ++ last ∷ []))
      (filter_map graph_begins (entry ∷ reverse numbers))
  all_more last entry opens [] [] are =
      one_more last entry (opened last entry opens) [] [] refl
  all_more last entry opens (name ∷ names) (number ∷ numbers) are =
      subst (FramesMatch p graph None (filter_map tree_begins (name ∷ names ++ last ∷ [])))
      (sym (ap (λ list. filter_map graph_begins (entry ∷ list)) (reverse-cons number numbers)
      ∙ filter_map-append graph_begins (entry ∷ reverse numbers) (number ∷ [])))
      (one_more name number (opened name number are.0)
      (filter_map tree_begins (names ++ last ∷ []))
      (filter_map graph_begins (entry ∷ reverse numbers))
      (all_more last entry opens names numbers are.1))
  all_more last entry opens [] (number ∷ numbers) are = absurd are
  all_more last entry opens (name ∷ names) [] are = absurd are

  -- the functions with which the machine begins
  entry_opens : (last : BodyName) → p.number last ≡ Some graph.entry → Opens last graph.entry
  entry_opens last is =
      let found = found_within graph.functions graph.entry graph.well_formed.entry_in in
      (is, found.0, found.1, ground.supplied.begins.entry found.0 found.1)

  first_opens : (name : BodyName) (k number : ℕ) → slice_get graph.starts k ≡ Some number
      → p.number name ≡ Some number → Opens name number
  first_opens name k number at is =
      let inside = at_index (λ n. n < length graph.functions) graph.starts k number
      graph.well_formed.starts_in at in
      let found = found_within graph.functions number inside in (
        is,
        found.0,
        found.1,
        ground.supplied.begins.firsts number (
          k,
          slice_get_within graph.starts k number at,
          get_or_from_slice_get graph.starts k number number at,
        ) found.0 found.1,
      )

  all_open : (names : List BodyName) (numbers : List ℕ)
      → ((name : BodyName) (k number : ℕ) → slice_get numbers k ≡ Some number
      → p.number name ≡ Some number → Opens name number)
      → AllZip (λ name number. p.number name ≡ Some number) names numbers
      → AllZip Opens names numbers
  all_open [] [] open_all are = tt
  all_open (name ∷ names) (number ∷ numbers) open_all are = (
    open_all name 0 number refl are.0,
    all_open names numbers
        (λ other k n at is. open_all other (suc k) n at is) are.1,
  )
  all_open [] (number ∷ numbers) open_all are = absurd are
  all_open (name ∷ names) [] open_all are = absurd are

  -- The first states match, if the bodies that begin are those of the graph's first values and entry.
  pub start_matches : (globals : ℕ) (names : List BodyName) (last : BodyName)
      → globals ≡ length graph.globals
      → AllZip (λ name number. p.number name ≡ Some number) names graph.starts
      → p.number last ≡ Some graph.entry
      → StatesMatch p graph (started bodies globals (names ++ last ∷ [])) (start_of graph)
  unfolding start_of start_frames new_job
  start_matches globals names last count are is = record {
    cells = tt;
    globals = ap (λ n. replicate n None) count;
    jobs = (
      record {
        status = tt;
        frames = all_more last graph.entry (entry_opens last is) names graph.starts
            (all_open names graph.starts first_opens are);
      },
      tt,
    );
    halted = refl;
  }
