-- The frames go on after an instruction: with a value in a register, a variable more, a variable with
-- another value, or in another block.
use Rattle.std.proofs.Common.{◌≡◌, ℕ, ◌<◌, ◌⊎◌, inl, inr, Bool, true, false, Option, Some, None}
use Rattle.std.proofs.Common.{List, [], ◌∷◌, ◌++◌, length, take, refl, ap, sym, ◌∙◌, subst, arith}
use Rattle.std.specs.Prelude.{slice_set, ◌==◌, if◌then◌else◌}
use Rattle.sw_graph.specs.Points.{points_of}
use Rattle.sw_lower_plans.specs.Plan.{var_in}
use Rattle.sw_lower_plans.specs.declared.bound.Bound.{Bound}
use Rattle.sw_value.specs.declared.value.Value.{Value}
use Rattle.sw_value.specs.Frame.{finish_instr, go_on, set_field}
use Rattle.sw_value.specs.Value.{value_at, with_field}
use Rattle.sw_tree_work.specs.Work.{Work}
use Rattle.sw_tree_step.specs.Acting.{with_temps}
use Rattle.sw_tree_step.specs.State.{Direct, Env, Going, Room, put, room_of, value_in}
use Rattle.sw_spots.specs.Spots.{Enters, IsAlone, IsFree, Ring, Stands, bound_of, starts}
use Rattle.sw_tree_same.specs.Frames.{AreVars, HasRoom, IsRoom, IsWanted, LoopsStand, is_boxed}
use Rattle.sw_tree_same.specs.Frames.{with_wanted}
use Rattle.sw_tree_same.proofs.Places.{goes_at, next_at, passed_at}
use Rattle.sw_tree_same.proofs.Registers.{room_set, set_by_change, temps_set, value_there, vars_set}
use Rattle.sw_tree_same.proofs.Tests.{by_test}
use Rattle.sw_tree_same.proofs.Scene.{Follows, Have, Rest, Scene, here, later, next}

-- one of a list of variables with one more at its end
var_end : (key : ℕ) (vars : List Bound) (one bound : Bound)
    → var_in key (vars ++ one ∷ []) ≡ Some bound
    → (var_in key vars ≡ Some bound) ⊎ ((one.key ≡ key) × (one ≡ bound))
var_end key [] one bound is = by_test
    (λ same. (if same then Some one else None) ≡ Some bound
    → (None ≡ Some bound) ⊎ ((one.key ≡ key) × (one ≡ bound))) one.key key
    (λ same is. inr (same, let one_is : one ≡ bound = cc in one_is)) (λ apart is. cc) is
var_end key (v ∷ vars) one bound is = by (v.key == key) (var_end key vars one bound) is where
  by : (same : Bool)
      → (var_in key (vars ++ one ∷ []) ≡ Some bound
      → (var_in key vars ≡ Some bound) ⊎ ((one.key ≡ key) × (one ≡ bound)))
      → (if same then Some v else var_in key (vars ++ one ∷ [])) ≡ Some bound
      → ((if same then Some v else var_in key vars) ≡ Some bound)
      ⊎ ((one.key ≡ key) × (one ≡ bound))
  by true later is = inl is
  by false later is = later is

room_same : (key : ℕ) (room : Room) (env : Env) → room_of key (put key room env) ≡ Some room
room_same key room env = by_test
    (λ same. (if same then Some room else room_of key env) ≡ Some room) key key (λ same. refl)
    (λ apart. absurd (apart refl))

room_other : (one key : ℕ) (room : Room) (env : Env) → (one ≡ key → ⊥)
    → room_of key (put one room env) ≡ room_of key env
room_other one key room env apart = by_test
    (λ same. (if same then Some room else room_of key env) ≡ room_of key env) one key
    (λ same. absurd (apart same)) (λ other. refl)

-- a variable more, in a register that is set
declared_vars : (regs : List (Option Value)) (r : ℕ) (w : Value) (env : Env) (vars : List Bound)
    (key : ℕ) (boxed : Bool) (room : Room)
    → ((other : ℕ) (bound : Bound) → var_in other vars ≡ Some bound → bound.reg < r)
    → var_in key vars ≡ None → IsRoom (slice_set regs r (Some w)) (bound_of key r boxed) room
    → AreVars regs env vars
    → AreVars (slice_set regs r (Some w)) (put key room env) (vars ++ bound_of key r boxed ∷ [])
declared_vars regs r w env vars key boxed room below new fits are other bound is =
    elim (var_end other vars (bound_of key r boxed) bound is) [
      | inl found ↦
          let has = vars_set regs r w env vars below are other bound found in
          record {
            room = has.room;
            found = room_other key other room env
                (λ same. let none : None ≡ Some bound =
                sym new ∙ ap (λ k. var_in k vars) same ∙ found in cc) ∙ has.found;
            is = has.is;
          }
      | inr (same, one) ↦ record {
        room = room;
        found = ap (λ k. room_of k (put key room env)) (sym same) ∙ room_same key room env;
        is = subst (λ (x : Bound). IsRoom (slice_set regs r (Some w)) x room) one fits;
      }
    ]

-- a variable has another value
stored_vars : (regs : List (Option Value)) (v : Value) (env : Env) (vars : List Bound) (key : ℕ)
    (bound : Bound) → bound.reg < length regs → bound.boxed ≡ false
    → var_in key vars ≡ Some bound → IsAlone key bound vars → AreVars regs env vars
    → AreVars (slice_set regs bound.reg (Some v)) (put key (Direct v) env) vars
stored_vars regs v env vars key bound within plain found alone are other one is = by_test
    (λ same. HasRoom (slice_set regs bound.reg (Some v)) (put key (Direct v) env) other one) key other
    (λ same.
    let bounds : bound ≡ one = (let both : Some bound ≡ Some one =
    sym found ∙ ap (λ k. var_in k vars) same ∙ is in cc) in
    record {
      room = Direct v;
      found = ap (λ k. room_of k (put key (Direct v) env)) (sym same) ∙ room_same key (Direct v) env;
      is = subst (λ (x : Bound). IsRoom (slice_set regs bound.reg (Some v)) x (Direct v)) bounds
          (sym plain, value_there regs bound.reg v within);
    })
    (λ apart.
    let has = are other one is in
    record {
      room = has.room;
      found = room_other key other (Direct v) env apart ∙ has.found;
      is = room_set regs bound.reg v one has.room (λ same. apart (sym (alone other one is same))) has.is;
    })

module _ (c : Scene) where
  -- a register of the function is one of the frame
  pub there : (r : ℕ) → r < length c.function.regs → r < length c.frame.regs
  there r less = let long = c.at.regs in omega (arith, less, long)

  -- a value is the newest temporary
  pub given : (rest : Work) (temps : List Value) (numbers : List ℕ) (r : ℕ) (v : Value)
      → Have c temps numbers → IsFree c.function r c.vars numbers
      → Rest c rest (later c (r ∷ numbers))
      → Follows c None (with_temps (v ∷ temps) rest c.tree) (finish_instr r v (next c) c.frame)
  unfolding finish_instr
  given rest temps numbers r v are free stands = record {
    same = record {
      function = c.function;
      rings = c.rings;
      spot = later c (r ∷ numbers);
      at = next_at c.graph c.state c.depth c.frame c.function (here c numbers) c.at r v;
      temps = (
        value_there c.frame.regs r v (there r free.within),
        temps_set c.frame.regs r v temps numbers free.temporaries are,
      );
      vars = vars_set c.frame.regs r v c.tree.env c.vars free.variables c.are_vars;
      free = tt;
      stands = stands;
      loops = c.loops;
      executor = c.executor;
      crossing = c.crossing;
    };
    gives = refl;
  }

  -- so it is below the newest one, which has this value too
  pub kept : (rest : Work) (temps : List Value) (s : ℕ) (numbers : List ℕ) (r : ℕ) (v : Value)
      → Have c (v ∷ temps) (s ∷ numbers) → IsFree c.function r c.vars (s ∷ numbers)
      → Rest c rest (later c (s ∷ r ∷ numbers))
      → Follows c None (with_temps (v ∷ v ∷ temps) rest c.tree) (finish_instr r v (next c) c.frame)
  unfolding finish_instr
  kept rest temps s numbers r v are free stands =
      let set = temps_set c.frame.regs r v (v ∷ temps) (s ∷ numbers) free.temporaries are in
      record {
        same = record {
          function = c.function;
          rings = c.rings;
          spot = later c (s ∷ r ∷ numbers);
          at = next_at c.graph c.state c.depth c.frame c.function (here c numbers) c.at r v;
          temps = (set.0, (value_there c.frame.regs r v (there r free.within), set.1));
          vars = vars_set c.frame.regs r v c.tree.env c.vars free.variables c.are_vars;
          free = tt;
          stands = stands;
          loops = c.loops;
          executor = c.executor;
          crossing = c.crossing;
        };
        gives = refl;
      }

  -- a part of the struct in a register has another value
  pub parted : (rest : Work) (temps : List Value) (numbers : List ℕ) (r i : ℕ) (part v : Value)
      → Have c temps numbers → IsFree c.function r c.vars numbers
      → value_at c.frame.regs r ≡ Some v → Rest c rest (later c (r ∷ numbers))
      → Follows c None (with_temps (with_field i part v ∷ temps) rest c.tree)
      (set_field r i part (next c) c.frame)
  unfolding finish_instr set_field
  parted rest temps numbers r i part v are free has stands =
      subst (λ regs. Follows c None (with_temps (with_field i part v ∷ temps) rest c.tree)
      (record c.frame { regs = regs; point = next c }))
      (sym (set_by_change c.frame.regs r v (with_field i part) has))
      (given rest temps numbers r (with_field i part v) are free stands)

  -- nothing is given yet
  pub passed : (wanted : Option ℕ) (rest : Work) (temps : List Value) (numbers : List ℕ)
      → Have c temps numbers → IsWanted c.function wanted (later c numbers)
      → Rest c rest (with_wanted wanted (later c numbers))
      → Follows c wanted (with_temps temps rest c.tree) (go_on (next c) c.frame)
  unfolding go_on
  passed wanted rest temps numbers are free stands = record {
    same = record {
      function = c.function;
      rings = c.rings;
      spot = later c numbers;
      at = passed_at c.graph c.state c.depth c.frame c.function (here c numbers) c.at;
      temps = are;
      vars = c.are_vars;
      free = free;
      stands = stands;
      loops = c.loops;
      executor = c.executor;
      crossing = c.crossing;
    };
    gives = refl;
  }

  -- a variable begins
  pub declared : (rest : Work) (temps : List Value) (numbers : List ℕ) (r key : ℕ) (boxed : Bool)
      (room : Room) → Have c temps numbers → IsFree c.function r c.vars numbers
      → var_in key c.vars ≡ None → is_boxed room ≡ boxed
      → Stands c.p rest c.function c.rings
      (record (later c numbers) { vars = c.vars ++ bound_of key r boxed ∷ [] })
      → Follows c None
      (record c.tree { env = put key room c.tree.env; temps = temps; work = rest })
      (finish_instr r (value_in room) (next c) c.frame)
  unfolding finish_instr
  declared rest temps numbers r key boxed room are free new is stands = record {
    same = record {
      function = c.function;
      rings = c.rings;
      spot = record (later c numbers) { vars = c.vars ++ bound_of key r boxed ∷ [] };
      at = next_at c.graph c.state c.depth c.frame c.function (here c numbers) c.at r
          (value_in room);
      temps = temps_set c.frame.regs r (value_in room) temps numbers free.temporaries are;
      vars = declared_vars c.frame.regs r (value_in room) c.tree.env c.vars key boxed room
          free.variables new
          (is, value_there c.frame.regs r (value_in room) (there r free.within)) c.are_vars;
      free = tt;
      stands = stands;
      loops = c.loops;
      executor = c.executor;
      crossing = c.crossing;
    };
    gives = refl;
  }

  -- a variable that is in no box gets a value
  pub stored : (rest : Work) (key : ℕ) (bound : Bound) (v : Value)
      → bound.reg < length c.function.regs → bound.boxed ≡ false
      → var_in key c.vars ≡ Some bound → IsAlone key bound c.vars → Rest c rest (later c [])
      → Follows c None
      (record c.tree { env = put key (Direct v) c.tree.env; temps = []; work = rest })
      (finish_instr bound.reg v (next c) c.frame)
  unfolding finish_instr
  stored rest key bound v within plain found alone stands = record {
    same = record {
      function = c.function;
      rings = c.rings;
      spot = later c [];
      at = next_at c.graph c.state c.depth c.frame c.function (here c []) c.at bound.reg v;
      temps = tt;
      vars = stored_vars c.frame.regs v c.tree.env c.vars key bound (there bound.reg within) plain
          found alone c.are_vars;
      free = tt;
      stands = stands;
      loops = c.loops;
      executor = c.executor;
      crossing = c.crossing;
    };
    gives = refl;
  }

  -- another block goes on, inside of these loops
  pub gone : (rest : Work) (rings : List Ring) (loops : List Going) (vars : List Bound)
      (temps : List Value) (numbers : List ℕ) (to : ℕ) → Have c temps numbers
      → AreVars c.frame.regs c.tree.env vars
      → Enters c.function to vars numbers (λ spot. Stands c.p rest c.function rings spot)
      → LoopsStand c.p c.function rings loops
      → Follows c None (record c.tree { temps = temps; work = rest; loops = loops })
      (go_on (length (points_of (take to c.function.blocks))) c.frame)
  unfolding go_on
  gone rest rings loops vars temps numbers to are known enters around = record {
    same = record {
      function = c.function;
      rings = rings;
      spot = starts to vars numbers;
      at = goes_at c.graph c.state c.depth c.frame c.function (here c numbers) c.at to enters.0;
      temps = are;
      vars = known;
      free = tt;
      stands = enters.1;
      loops = around;
      executor = c.executor;
      crossing = c.crossing;
    };
    gives = refl;
  }
