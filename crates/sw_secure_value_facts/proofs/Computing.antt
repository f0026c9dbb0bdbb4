-- What operators compute reaches nothing.
use Rattle.std.proofs.Common.{◌≡◌, ◌+◌, ℕ, ℤ, Bool, true, false, cond, Option, Some, None, List, []}
use Rattle.std.proofs.Common.{length, Contains, refl, subst, flat_map, not, int_eq, int_lt, int_le}
use Rattle.std.proofs.Common.{int_div, int_rem, ◌+ℤ◌, ◌-ℤ◌, ◌*ℤ◌, neg_ℤ, pos}
use Rattle.std.specs.Prelude.{Result, Ok, Err}
use Rattle.std.specs.Option.{option_and_then, option_map}
use Rattle.sw_list.proofs.ListLemmas.{some_injective}
use Rattle.sw_list.proofs.Members.{none_in}
use Rattle.sw_graph.specs.declared.function.Function.{Function}
use Rattle.sw_graph.specs.declared.graph.Graph.{Graph}
use Rattle.sw_graph.specs.declared.instr.BinOp.{BinOp}
use Rattle.sw_graph.specs.declared.instr.BinOp.TheVariants.{Add, Sub, Mul, Div, Rem, Eq, Ne, Lt, Le}
use Rattle.sw_graph.specs.declared.instr.BinOp.TheVariants.{Gt, Ge}
use Rattle.sw_graph.specs.declared.instr.Instr.{Instr}
use Rattle.sw_graph.specs.declared.instr.UnOp.{UnOp}
use Rattle.sw_graph.specs.declared.instr.UnOp.TheVariants.{Not, Neg}
use Rattle.sw_graph.specs.Mentions.{set_by}
use Rattle.sw_graph.specs.Points.{Middle}
use Rattle.sw_value.specs.declared.effect.Effect.{Effect}
use Rattle.sw_value.specs.declared.effect.Effect.TheVariants.{Set}
use Rattle.sw_value.specs.declared.frame.Frame.{Frame}
use Rattle.sw_value.specs.declared.job.Job.{Job}
use Rattle.sw_value.specs.declared.state.State.{State}
use Rattle.sw_value.specs.declared.state.TrapKind.{TrapKind}
use Rattle.sw_value.specs.declared.state.TrapKind.TheVariants.{Overflow, ZeroDivisor}
use Rattle.sw_value.specs.declared.value.Value.{Value, Value-F, out-Value}
use Rattle.sw_value.specs.declared.value.Value.TheOpen as layer
use Rattle.sw_value.specs.declared.value.Value.TheVariants as value
use Rattle.sw_value.specs.Arithmetic.{binary, fits, is_same_truth, layer_binary, layer_unary}
use Rattle.sw_value.specs.Arithmetic.{of_integers, of_truths, unary, unless_too_large}
use Rattle.sw_value.specs.Effect.{computed_of, needs, point_effect}
use Rattle.sw_secure_facts.specs.Executing.{is_of_values}
use Rattle.sw_value.specs.Reach.{step_of}
use Rattle.sw_partition.specs.Regions.{Regions}
use Rattle.sw_region_ops.specs.Elements.{elements_of}
use Rattle.sw_owner_facts.specs.View.{Frame as Spot}
use Rattle.sw_region_facts.specs.FrameRegions.{IsWeaker}
use Rattle.sw_region_facts.proofs.Comes.{sets_weaker}
use Rattle.sw_reach_facts.specs.Reached.{colours_of, references, shown_below}
use Rattle.sw_reach_facts.proofs.ReferenceLemmas.{references-int, references-truth}
use Rattle.sw_view_facts.specs.Standing.{StandsAt}
use Rattle.sw_view_facts.specs.Views.{Colours, makes_itself}
use Rattle.sw_store_facts.specs.Sound.{HasSoundView, IsColoured}
use Rattle.sw_store_facts.proofs.Copying.{reached, set_sound}
use Rattle.sw_store_facts.proofs.Stepping.{row}

-- a value that is computed refers to nothing, and a trap gives none
abbrev IsBare : Result Value TrapKind → Type 0
IsBare (Ok v) = references v ≡ []
IsBare (Err kind) = Unit {0}

int_bare : (n : ℤ) → references (value.Int n) ≡ []
int_bare n = references-int (value.Int n) n (value.outs-Int n)

truth_bare : (b : Bool) → references (value.Bool b) ≡ []
truth_bare b = references-truth (value.Bool b) b (value.outs-Bool b)

unless_bare : (deciding n : ℤ) → IsBare (unless_too_large deciding n)
unless_bare deciding n = by (fits deciding) where
  by : (b : Bool) → IsBare (cond b (Ok (value.Int n)) (Err Overflow))
  by true = int_bare n
  by false = tt

divided_bare : (b : Bool) (deciding n : ℤ)
    → IsBare (cond b (Err ZeroDivisor) (unless_too_large deciding n))
divided_bare true deciding n = tt
divided_bare false deciding n = unless_bare deciding n

integers_bare : (op : BinOp) (a b : ℤ) → IsBare (of_integers op a b)
integers_bare Add a b = unless_bare (a +ℤ b) (a +ℤ b)
integers_bare Sub a b = unless_bare (a -ℤ b) (a -ℤ b)
integers_bare Mul a b = unless_bare (a *ℤ b) (a *ℤ b)
integers_bare Div a b = divided_bare (int_eq b (pos 0)) (int_div a b) (int_div a b)
integers_bare Rem a b = divided_bare (int_eq b (pos 0)) (int_div a b) (int_rem a b)
integers_bare Eq a b = truth_bare (int_eq a b)
integers_bare Ne a b = truth_bare (not (int_eq a b))
integers_bare Lt a b = truth_bare (int_lt a b)
integers_bare Le a b = truth_bare (int_le a b)
integers_bare Gt a b = truth_bare (int_lt b a)
integers_bare Ge a b = truth_bare (int_le b a)

ok_bare : (b : Bool) (r : Result Value TrapKind) → Some (Ok (value.Bool b)) ≡ Some r → IsBare r
ok_bare b r is = subst IsBare (some_injective is) (truth_bare b)

truths_bare : (op : BinOp) (a b : Bool) (r : Result Value TrapKind)
    → option_map Ok (of_truths op a b) ≡ Some r → IsBare r
truths_bare Eq a b r is = ok_bare (is_same_truth a b) r is
truths_bare Ne a b r is = ok_bare (not (is_same_truth a b)) r is
truths_bare Add a b r is = cc
truths_bare Sub a b r is = cc
truths_bare Mul a b r is = cc
truths_bare Div a b r is = cc
truths_bare Rem a b r is = cc
truths_bare Lt a b r is = cc
truths_bare Le a b r is = cc
truths_bare Gt a b r is = cc
truths_bare Ge a b r is = cc

binary_bare : (op : BinOp) (l m : Value-F Value) (r : Result Value TrapKind)
    → layer_binary op l m ≡ Some r → IsBare r
binary_bare op (layer.Int a) (layer.Int b) r is =
    subst IsBare (some_injective is) (integers_bare op a b)
binary_bare op (layer.Bool a) (layer.Bool b) r is = truths_bare op a b r is
binary_bare op (layer.Int a) (layer.Bool b) r is = cc
binary_bare op (layer.Int a) layer.Unit r is = cc
binary_bare op (layer.Int a) (layer.Cell c) r is = cc
binary_bare op (layer.Int a) (layer.Group vs) r is = cc
binary_bare op (layer.Int a) (layer.Case tag vs) r is = cc
binary_bare op (layer.Bool a) (layer.Int b) r is = cc
binary_bare op (layer.Bool a) layer.Unit r is = cc
binary_bare op (layer.Bool a) (layer.Cell c) r is = cc
binary_bare op (layer.Bool a) (layer.Group vs) r is = cc
binary_bare op (layer.Bool a) (layer.Case tag vs) r is = cc
binary_bare op layer.Unit m r is = cc
binary_bare op (layer.Cell c) m r is = cc
binary_bare op (layer.Group vs) m r is = cc
binary_bare op (layer.Case tag vs) m r is = cc

unary_bare : (op : UnOp) (l : Value-F Value) (r : Result Value TrapKind)
    → layer_unary op l ≡ Some r → IsBare r
unary_bare Not (layer.Bool b) r is = ok_bare (not b) r is
unary_bare Neg (layer.Int n) r is =
    subst IsBare (some_injective is) (unless_bare (neg_ℤ n) (neg_ℤ n))
unary_bare Not (layer.Int n) r is = cc
unary_bare Not layer.Unit r is = cc
unary_bare Not (layer.Cell c) r is = cc
unary_bare Not (layer.Group vs) r is = cc
unary_bare Not (layer.Case tag vs) r is = cc
unary_bare Neg (layer.Bool b) r is = cc
unary_bare Neg layer.Unit r is = cc
unary_bare Neg (layer.Cell c) r is = cc
unary_bare Neg (layer.Group vs) r is = cc
unary_bare Neg (layer.Case tag vs) r is = cc

-- An operator that gives register r a value gives it one that refers to nothing.
pub record SetsBare (e : Effect) (r next : ℕ) : Type 0 where
  pub value : Value
  pub is : e ≡ Set r value next
  pub bare : references value ≡ []

computes : (o : Option (Result Value TrapKind)) (next at r : ℕ)
    → ((result : Result Value TrapKind) → o ≡ Some result → IsBare result)
    → is_of_values (needs o (computed_of next at r)) ≡ true
    → SetsBare (needs o (computed_of next at r)) r next
computes None next at r bare is = absurd (let clash : ⊥ = cc in clash)
computes (Some (Ok v)) next at r bare is =
    record { value = v; is = refl; bare = bare (Ok v) refl }
computes (Some (Err kind)) next at r bare is = absurd (let clash : ⊥ = cc in clash)

pub un_sets : (op : UnOp) (v : Option Value) (next at r : ℕ)
    → is_of_values (needs (option_and_then (unary op) v) (computed_of next at r)) ≡ true
    → SetsBare (needs (option_and_then (unary op) v) (computed_of next at r)) r next
un_sets op None next at r is = absurd (let clash : ⊥ = cc in clash)
un_sets op (Some v) next at r is =
    computes (unary op v) next at r (λ result gives. unary_bare op (out-Value v) result gives) is

pub bin_sets : (op : BinOp) (v w : Option Value) (next at r : ℕ)
    → is_of_values (needs v (λ v. needs (option_and_then (binary op v) w) (computed_of next at r)))
    ≡ true
    → SetsBare (needs v (λ v. needs (option_and_then (binary op v) w) (computed_of next at r))) r
    next
bin_sets op None w next at r is = absurd (let clash : ⊥ = cc in clash)
bin_sets op (Some v) None next at r is = absurd (let clash : ⊥ = cc in clash)
bin_sets op (Some v) (Some w) next at r is = computes (binary op v w) next at r
    (λ result gives. binary_bare op (out-Value v) (out-Value w) result gives) is

module _ (graph : Graph) (states : ℕ → List (Option Regions)) (state : State) (colours : Colours)
    (s : IsColoured graph states state colours) (q : Spot) (job : Job) (f : Frame)
    (function : Function) (instr : Instr)
    (x : StandsAt graph state q job f function (Middle instr)) where
  -- a register gets a value that refers to nothing
  pub bare_sound : makes_itself graph function (Middle instr) ≡ false → (dst : ℕ)
      → set_by instr ≡ Some dst → IsWeaker (elements_of graph.shapes function.regs)
      (row graph states state colours s q job f function instr x).a
      (row graph states state colours s q job f function instr x).c
      → SetsBare (point_effect graph state (length job.frames) f (Middle instr)) dst (f.point + 1)
      → HasSoundView graph states (step_of graph state q.job) colours
  unfolding colours_of
  bare_sound ordinary dst sets weaker gets =
      let here = row graph states state colours s q job f function instr x in
      set_sound graph states state colours s q job f function instr x ordinary dst gets.value sets
      gets.is [] (sets_weaker (elements_of graph.shapes function.regs) dst here.a here.c weaker)
      (λ c in_r. absurd (none_in c (subst (λ l. Contains
      (flat_map (shown_below state.cells colours.cells (length state.cells)) l) c) gets.bare
      (reached graph states state colours s q job f function instr x ordinary dst gets.value sets
      gets.is c in_r))))
