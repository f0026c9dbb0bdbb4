-- What the work of a frame does is what the instruction does at which the graph's frame stands.
use Rattle.std.proofs.Common.{◌≡◌, ℕ, Bool, true, false, Some, List, [], ◌∷◌, refl}
use Rattle.std.proofs.Common.{sym, ◌∙◌, subst}
use Rattle.sw_value.specs.declared.value.Value.{Value}
use Rattle.sw_tree_work.specs.Work as work
use Rattle.sw_tree_work.specs.Work.{Act, Work}
use Rattle.sw_tree_step.specs.Acting.{may_give, reads}
use Rattle.sw_tree_step.specs.State.{Direct, InBox, Room, room_of}
use Rattle.sw_tree_step.specs.Working.{Settled, settle, settle_read, work_done}
use Rattle.sw_spots.specs.Spots.{ActAt, ReadAt}
use Rattle.sw_tree_same.specs.Frames.{IsRoom}
use Rattle.sw_tree_same.proofs.Blocks.{again_ends, decide_ends, finish_ends, jump_ends, leave_ends}
use Rattle.sw_tree_same.proofs.Blocks.{loop_ends, return_ends, switch_ends, test_ends}
use Rattle.sw_tree_same.proofs.Calling.{call_closure_does, call_does, close_ends, spawn_ends}
use Rattle.sw_tree_same.proofs.Cells.{await_does, load_global_does, load_part_does, new_does}
use Rattle.sw_tree_same.proofs.Cells.{store_global_does, store_part_does, yield_does}
use Rattle.sw_tree_same.proofs.Computing.{binary_does, field_does, keep_does, literal_does, make_does}
use Rattle.sw_tree_same.proofs.Computing.{print_does, replace_does, set_field_does, unary_does}
use Rattle.sw_tree_same.proofs.Naming.{box_read, declare_does, payload_does, store_does}
use Rattle.sw_tree_same.proofs.Scene.{Have, Relates, Rest, Scene, here}

module _ (c : Scene) where
  -- the first act that takes a step, and the temporaries before it
  abbrev pub After : Settled → Type 0
  After x = Relates c (work_done x.work c.bodies c.trees c.depth c.tree x.temps)

  -- the rest of the work, from the same spot
  abbrev GoesOn : Work → Type 0
  GoesOn rest = (temps : List Value) (numbers : List ℕ) → Have c temps numbers
      → Rest c rest (here c numbers) → After (settle rest c.tree.env temps)

  abbrev Acts : Act → Work → Type 0
  Acts act rest = (temps : List Value) (numbers : List ℕ) → Have c temps numbers
      → ActAt c.p act c.function (here c numbers) (Rest c rest)
      → After (settle (work.Then act rest) c.tree.env temps)

  -- a variable in no box takes no step
  read_does : (key : ℕ) (rest : Work) → GoesOn rest → Acts (work.Read key) rest
  read_does key rest go temps numbers are act =
      let has = c.are_vars key act.0 act.1 in
      subst (λ room. After (settle_read room temps (work.Then (work.Read key) rest)
      (settle rest c.tree.env))) (sym has.found)
      (by has.room has.found has.is act.0.boxed refl act.2) where
        by : (room : Room) → room_of key c.tree.env ≡ Some room → IsRoom c.frame.regs act.0 room
            → (boxed : Bool) → act.0.boxed ≡ boxed
            → ReadAt c.function (here c numbers) (Rest c rest) act.0 boxed
            → After (settle_read (Some room) temps (work.Then (work.Read key) rest)
            (settle rest c.tree.env))
        by (Direct v) found is false plain stands =
            go (v ∷ temps) (act.0.reg ∷ numbers) (is.1, are) stands
        by (InBox k) found is true boxed stands =
            subst (λ room. Relates c (may_give (reads c.trees room) temps rest c.tree)) (sym found)
            (box_read c rest temps numbers act.0 k are is.1 stands)
        by (Direct v) found is true boxed stands =
            absurd (let no : ⊥ = (let wrong : false ≡ true = is.0 ∙ boxed in cc) in no)
        by (InBox k) found is false plain stands =
            absurd (let no : ⊥ = (let wrong : true ≡ false = is.0 ∙ plain in cc) in no)

  drop_does : (rest : Work) → GoesOn rest → Acts work.Drop rest
  drop_does rest go (v ∷ temps) (s ∷ numbers) are act = go temps numbers are.1 act
  drop_does rest go [] [] are act = absurd act
  drop_does rest go [] (s ∷ numbers) are act = absurd are
  drop_does rest go (v ∷ temps) [] are act = absurd are

  swap_does : (rest : Work) → GoesOn rest → Acts work.Swap rest
  swap_does rest go (w ∷ v ∷ temps) (t ∷ s ∷ numbers) are act =
      go (v ∷ w ∷ temps) (s ∷ t ∷ numbers) (are.1.0, (are.0, are.1.1)) act
  swap_does rest go [] [] are act = absurd act
  swap_does rest go [] (s ∷ numbers) are act = absurd are
  swap_does rest go (v ∷ temps) [] are act = absurd are
  swap_does rest go (w ∷ []) (t ∷ []) are act = absurd act
  swap_does rest go (w ∷ []) (t ∷ s ∷ numbers) are act = absurd are.1
  swap_does rest go (w ∷ v ∷ temps) (t ∷ []) are act = absurd are.1

  act_does : (act : Act) (rest : Work) → GoesOn rest → Acts act rest
  act_does (work.Literal v) rest go = literal_does c v rest
  act_does (work.Read key) rest go = read_does key rest go
  act_does work.Drop rest go = drop_does rest go
  act_does work.Swap rest go = swap_does rest go
  act_does work.Keep rest go = keep_does c rest
  act_does work.Replace rest go = replace_does c rest
  act_does (work.Unary at op) rest go = unary_does c at op rest
  act_does (work.Binary at op) rest go = binary_does c at op rest
  act_does (work.Print count) rest go = print_does c count rest
  act_does (work.Field i) rest go = field_does c i rest
  act_does (work.SetField i) rest go = set_field_does c i rest
  act_does (work.Make tag count) rest go = make_does c tag count rest
  act_does (work.Declare key boxed) rest go = declare_does c key boxed rest
  act_does (work.Store key) rest go = store_does c key rest
  act_does (work.Payload key i) rest go = payload_does c key i rest
  act_does (work.LoadPart i) rest go = load_part_does c i rest
  act_does (work.StorePart i) rest go = store_part_does c i rest
  act_does (work.LoadGlobal g) rest go = load_global_does c g rest
  act_does (work.StoreGlobal g) rest go = store_global_does c g rest
  act_does (work.New number shape names) rest go = new_does c number shape names rest
  act_does (work.Call at kind name count) rest go = call_does c at kind name count rest
  act_does (work.CallClosure at count) rest go = call_closure_does c at count rest
  act_does work.Await rest go = await_does c rest
  act_does work.Yield rest go = yield_does c rest

  -- What work does after all that takes no step.
  pub does : (w : Work) → GoesOn w
  does (work.Then act rest) temps numbers are stands =
      act_does act rest (does rest) temps numbers are stands
  does (work.Close key caps params body rest) temps numbers are stands =
      close_ends c key caps params body rest temps numbers are stands
  does (work.Spawn at how caps body rest) temps numbers are stands =
      spawn_ends c at how caps body rest temps numbers are stands
  does (work.Test one other) temps numbers are stands =
      test_ends c one other temps numbers are stands
  does (work.Switch cases ways) temps numbers are stands =
      switch_ends c cases ways temps numbers are stands
  does (work.Jump rest) temps numbers are stands =
      jump_ends c rest temps numbers are stands
  does (work.Loop cond body rest) temps numbers are stands =
      loop_ends c cond body rest temps numbers are stands
  does work.Decide temps numbers are stands =
      decide_ends c temps numbers are stands
  does work.Again temps numbers are stands =
      again_ends c temps numbers are stands
  does work.Leave temps numbers are stands =
      leave_ends c temps numbers are stands
  does work.Return temps numbers are stands =
      return_ends c temps numbers are stands
  does work.Finish temps numbers are stands =
      finish_ends c temps numbers are stands
  does (work.Case name way others) temps numbers are stands = absurd stands
  does (work.Otherwise way) temps numbers are stands = absurd stands
  does work.Unknown temps numbers are stands = absurd stands
