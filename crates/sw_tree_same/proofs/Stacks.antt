-- The frames of a job on both machines, after its top frame did something.
use Rattle.std.proofs.Common.{◌≡◌, ℕ, ◌-◌, ◌≤◌, Bool, true, false}
use Rattle.std.proofs.Common.{Option, Some, None, List, [], ◌∷◌, ◌++◌, length, refl, ap, sym, ◌∙◌}
use Rattle.std.proofs.Common.{subst, arith, length-append}
use Rattle.std.proofs.lemmas.List.{length-set}
use Rattle.std.specs.Prelude.{slice_get, if◌then◌else◌}
use Rattle.sw_list.proofs.ListLemmas.{at_index}
use Rattle.sw_graph.specs.declared.function.Function.{Function}
use Rattle.sw_graph.specs.declared.graph.Graph.{Graph}
use Rattle.sw_graph.specs.Limits.{IsWithinLimits}
use Rattle.sw_value.specs.declared.frame.Frame.{Frame}
use Rattle.sw_value.specs.declared.frame.TheConstants.{NO_REGISTER}
use Rattle.sw_value.specs.declared.job.Job.{Job}
use Rattle.sw_value.specs.declared.value.Value.{Value}
use Rattle.sw_value.specs.Frame.{set_register, take_result}
use Rattle.sw_value.specs.Job.{top_frame}
use Rattle.sw_value.specs.Lists.{changed_at}
use Rattle.sw_machine_kind_facts.proofs.ItemLemmas.{changed_end, top_of}
use Rattle.sw_spots.specs.Spots.{Program}
use Rattle.sw_tree_step.specs.State.{TreeFrame}
use Rattle.sw_tree_step.specs.Step.{given}
use Rattle.sw_tree_same.specs.Frames.{FramesMatch, Match, wanted_by}
use Rattle.sw_tree_same.proofs.Registers.{temps_set, value_there, vars_set}
use Rattle.sw_tree_same.proofs.Tests.{by_test}

module _ (p : Program) (graph : Graph) where
  -- as many frames
  pub frames_count : (wanted : Option ℕ) (trees : List TreeFrame) (frames : List Frame)
      → FramesMatch p graph wanted trees frames → length trees ≡ length frames
  frames_count wanted [] frames are = sym (ap length are)
  frames_count wanted (tree ∷ trees) frames are =
      let more = frames_count (wanted_by tree.gives are.top.result) trees are.below are.rest in
      let one = length-append are.below (are.top ∷ []) in
      let all = ap length are.are in
      omega (arith, more, one, all)

  -- another frame on top of the same ones
  pub on_top : (wanted : Option ℕ) (tree : TreeFrame) (trees : List TreeFrame) (below : List Frame)
      (top : Frame) → Match p graph wanted tree top → (tree.gives ≡ false → top.result ≡ NO_REGISTER)
      → FramesMatch p graph (wanted_by tree.gives top.result) trees below
      → FramesMatch p graph wanted (tree ∷ trees) (below ++ top ∷ [])
  on_top wanted tree trees below top same unwanted rest = record {
    below = below;
    top = top;
    are = refl;
    same = same;
    unwanted = unwanted;
    rest = rest;
  }

  module _ (wanted : Option ℕ) (tree : TreeFrame) (trees : List TreeFrame) (frames : List Frame)
      (m : FramesMatch p graph wanted (tree ∷ trees) frames) where
    -- the top frames go on
    pub put_on : (later : Option ℕ) (other : TreeFrame) (top : Frame) → Match p graph later other top
        → other.gives ≡ tree.gives → top.result ≡ m.top.result
        → FramesMatch p graph later (other ∷ trees) (m.below ++ top ∷ [])
    put_on later other top same gives result =
        on_top later other trees m.below top same
        (λ none. result ∙ m.unwanted (sym gives ∙ none))
        (subst (λ wants. FramesMatch p graph wants trees m.below)
        (ap (λ given. wanted_by given m.top.result) (sym gives)
        ∙ ap (wanted_by other.gives) (sym result)) m.rest)

    pub top_there : (job : Job) → job.frames ≡ frames → top_frame job ≡ Some m.top
    unfolding top_frame
    top_there job is =
        ap (λ (all : List Frame). slice_get all (length all - 1)) (is ∙ m.are)
        ∙ top_of m.below m.top

    pub changed_top : (g : Frame → Frame)
        → changed_at g (length frames - 1) frames ≡ m.below ++ g m.top ∷ []
    changed_top g =
        ap (λ (all : List Frame). changed_at g (length all - 1) all) m.are
        ∙ changed_end g m.below m.top

  -- A frame has the value that it waited for.
  pub woken : (tree : TreeFrame) (r : ℕ) (frame : Frame) (v : Value)
      → Match p graph (Some r) tree frame → Match p graph None (given v tree) (set_register r v frame)
  unfolding set_register
  woken tree r frame v m = record {
    function = m.function;
    rings = m.rings;
    spot = record m.spot { temps = r ∷ m.spot.temps };
    at = record {
      is = m.at.is;
      within = m.at.within;
      point = m.at.point;
      regs = length-set frame.regs r (Some v) ∙ m.at.regs;
    };
    temps = (
      value_there frame.regs r v
          (let less = m.free.within in let long = m.at.regs in omega (arith, less, long)),
      temps_set frame.regs r v tree.temps m.spot.temps m.free.temporaries m.temps,
    );
    vars = vars_set frame.regs r v tree.env m.spot.vars m.free.variables m.vars;
    free = tt;
    stands = m.stands;
    loops = m.loops;
    executor = m.executor;
    crossing = m.crossing;
  }

  few_registers : (number : ℕ) (function : Function) → slice_get graph.functions number ≡ Some function
      → length function.regs ≤ NO_REGISTER
  few_registers number function is =
      (at_index IsWithinLimits graph.functions number function graph.well_formed.limits is).registers

  -- the register is one
  taken_there : (tree : TreeFrame) (r : ℕ) (frame : Frame) (v : Value)
      → Match p graph (Some r) tree frame → take_result r v frame ≡ set_register r v frame
  unfolding take_result
  taken_there tree r frame v m = by_test
      (λ none. (if none then frame else set_register r v frame) ≡ set_register r v frame) r NO_REGISTER
      (λ same.
      let few = few_registers frame.function m.function m.at.is in
      let less = m.free.within in
      absurd (omega (arith, few, less, same))) (λ apart. refl)

  no_register : (r : ℕ) (frame : Frame) (v : Value) → r ≡ NO_REGISTER → take_result r v frame ≡ frame
  unfolding take_result
  no_register r frame v is = by_test
      (λ none. (if none then frame else set_register r v frame) ≡ frame) r NO_REGISTER (λ same. refl)
      (λ apart. absurd (apart is))

  -- the frame below the one that has returned, if it wants the value and if not
  pub taken_up : (gives : Bool) (r : ℕ) (v : Value) (tree : TreeFrame) (trees : List TreeFrame)
      (frames : List Frame) → (gives ≡ false → r ≡ NO_REGISTER)
      → (m : FramesMatch p graph (wanted_by gives r) (tree ∷ trees) frames)
      → FramesMatch p graph None (if gives then given v tree ∷ trees else tree ∷ trees)
      (m.below ++ take_result r v m.top ∷ [])
  unfolding set_register
  taken_up true r v tree trees frames unwanted m =
      subst (λ (top : Frame). FramesMatch p graph None (given v tree ∷ trees) (m.below ++ top ∷ []))
      (sym (taken_there tree r m.top v m.same))
      (put_on (Some r) tree trees frames m None (given v tree) (set_register r v m.top)
      (woken tree r m.top v m.same) refl refl)
  taken_up false r v tree trees frames unwanted m =
      subst (λ (top : Frame). FramesMatch p graph None (tree ∷ trees) (m.below ++ top ∷ []))
      (sym (no_register r m.top v (unwanted refl)))
      (put_on None tree trees frames m None tree m.top m.same refl refl)
