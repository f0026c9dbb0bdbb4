-- Acts that read, write and make cells, boxes and global variables.
use Rattle.std.proofs.Common.{◌≡◌, ℕ, Bool, true, false, Option, Some, None, List, []}
use Rattle.std.proofs.Common.{◌∷◌, length, refl, ap, sym, ◌∙◌, subst}
use Rattle.std.specs.Prelude.{slice_get, option_and_then, option_map, ◌==◌, if◌then◌else◌}
use Rattle.sw_types.specs.declared.shape.Part.{Part}
use Rattle.sw_types.specs.declared.shape.Shape.{Shape}
use Rattle.sw_types.specs.declared.shape.ShapeKind.{ShapeKind}
use Rattle.sw_types.specs.declared.shape.ShapeKind.TheVariants as shapes
use Rattle.sw_graph.specs.declared.graph.Graph.{Graph}
use Rattle.sw_graph.specs.declared.instr.Instr.{Instr}
use Rattle.sw_graph.specs.declared.instr.Instr.TheVariants as instr
use Rattle.sw_graph.specs.declared.instr.Operand.{Operand}
use Rattle.sw_lower_rules.specs.Bodies.{made_instr}
use Rattle.sw_value.specs.declared.cell.HeapCell.{HeapCell}
use Rattle.sw_value.specs.declared.cell.HeapCell.TheVariants as cell
use Rattle.sw_value.specs.declared.cell.Slot.{Slot}
use Rattle.sw_value.specs.declared.cell.Slot.TheVariants as slots
use Rattle.sw_value.specs.declared.effect.Effect.TheVariants as effect
use Rattle.sw_value.specs.declared.state.State.{State}
use Rattle.sw_value.specs.declared.value.Value.{Value}
use Rattle.sw_value.specs.declared.value.Value.TheVariants as value
use Rattle.sw_value.specs.Cell.{slot_of, task_of}
use Rattle.sw_value.specs.Effect as graph
use Rattle.sw_value.specs.Effect.{instr_effect, needs, new_of, slot_write}
use Rattle.sw_value.specs.Frame.{finish_instr}
use Rattle.sw_value.specs.Lists.{each_of}
use Rattle.sw_value.specs.Value.{operand_value, reference_of, value_at, values_at}
use Rattle.sw_tree_work.specs.Work as work
use Rattle.sw_tree_work.specs.Work.{Work}
use Rattle.sw_tree_step.specs.Acting.{Rests, Waits, Writes, WritesGlobal, adds, besides, given_to, kept_at}
use Rattle.sw_tree_step.specs.Acting.{kept_by, kept_of, loaded, new_cell, slot_at, writes}
use Rattle.sw_tree_step.specs.State.{Closed, Kept, TreeCell, TreeState}
use Rattle.sw_spots.specs.Spots.{AreParts, Gives, IsInstr, NewAt, Program, reg_given}
use Rattle.sw_tree_same.specs.Frames.{AreTemps}
use Rattle.sw_tree_same.specs.States.{CellsMatch, IsNoClosure, StatesMatch}
use Rattle.sw_tree_same.proofs.Computing.{now_is, sets}
use Rattle.sw_tree_same.proofs.Following.{given, passed}
use Rattle.sw_tree_same.proofs.Scene.{Does, Follows, Have, Related, Relates, Rest, Scene, has_value}
use Rattle.sw_tree_same.proofs.Scene.{here, later, next, now, on_many, on_one}
use Rattle.sw_tree_same.proofs.Zips.{BothOrNone, zip_get, zip_length}

no_slot : (slot : Slot) (number : ℕ) (values : List Value)
    → slot_of slot (cell.Closure number values) ≡ None
no_slot (slots.Part i) number values = refl
no_slot slots.Content number values = refl

-- the value that was given by a name, in its register
given_at : (regs : List (Option Value)) (names : List ℕ) (values : List Value) (numbers : List ℕ)
    (name r : ℕ) → AreTemps regs values numbers → reg_given names numbers name ≡ Some r
    → given_to names values name ≡ value_at regs r
given_at regs [] values numbers name r are is = cc
given_at regs (one ∷ names) [] [] name r are is = cc
given_at regs (one ∷ names) (v ∷ values) (s ∷ numbers) name r are is =
    by (one == name) (given_at regs names values numbers name r are.1) is where
      by : (same : Bool)
          → (reg_given names numbers name ≡ Some r → given_to names values name ≡ value_at regs r)
          → (if same then Some s else reg_given names numbers name) ≡ Some r
          → (if same then Some v else given_to names values name) ≡ value_at regs r
      by true more is = sym are.0 ∙ ap (value_at regs) (let same : s ≡ r = cc in same)
      by false more is = more is
given_at regs (one ∷ names) [] (s ∷ numbers) name r are is = absurd are
given_at regs (one ∷ names) (v ∷ values) [] name r are is = absurd are

parts_are : (regs : List (Option Value)) (names : List ℕ) (values : List Value)
    (numbers : List ℕ) (parts : List Part) (os : List Operand) → AreTemps regs values numbers
    → AreParts names numbers parts os
    → values_at regs os ≡ each_of (λ (part : Part). given_to names values part.name) parts
parts_are regs names values numbers [] [] have are = refl
parts_are regs names values numbers (part ∷ parts) (o ∷ os) have are =
    ap (λ first. option_and_then (λ v. option_map (λ rest. v ∷ rest)
    (each_of (operand_value regs) os)) first)
    (sym (given_at regs names values numbers part.name o.reg have are.0))
    ∙ ap (λ more. option_and_then (λ v. option_map (λ rest. v ∷ rest) more)
    (given_to names values part.name)) (parts_are regs names values numbers parts os have are.1)
parts_are regs names values numbers [] (o ∷ os) have are = absurd are
parts_are regs names values numbers (part ∷ parts) [] have are = absurd are

no_closure : (kind : ShapeKind) (number : ℕ) (parts : List Value)
    → IsNoClosure (new_cell kind number parts)
no_closure shapes.Struct number parts = tt
no_closure shapes.Enum number parts = tt
no_closure shapes.Class number parts = tt
no_closure shapes.Actor number parts = tt

-- What is said of a cell is the same on both machines, if it is said of no closure.
module _ {X : Type 0} (f : HeapCell → Option X)
    (none : (number : ℕ) (values : List Value) → f (cell.Closure number values) ≡ None) where
  pub kept_same : (p : Program) (graph : Graph) (trees : TreeState) (state : State)
      → StatesMatch p graph trees state → (k : ℕ)
      → option_and_then f (kept_at trees k) ≡ option_and_then f (slice_get state.cells k)
  kept_same p graph trees state m k = by (slice_get trees.cells k) (slice_get state.cells k)
      (zip_get (CellsMatch p) trees.cells state.cells k m.cells) where
        by : (one : Option TreeCell) (other : Option HeapCell)
            → BothOrNone (CellsMatch p) one other
            → option_and_then f (option_and_then kept_of one) ≡ option_and_then f other
        by None None both = refl
        by (Some (Kept one)) (Some other) both = ap f both.0
        by (Some (Closed key params body env)) (Some (cell.Closure number values)) both =
            sym (none number values)
        by (Some (Closed key params body env)) (Some other) both = absurd both
        by None (Some other) both = absurd both
        by (Some one) None both = absurd both

module _ (c : Scene) where
  -- the same of a scene
  kept_here : {X : Type 0} (f : HeapCell → Option X)
      → ((number : ℕ) (values : List Value) → f (cell.Closure number values) ≡ None) → (k : ℕ)
      → option_and_then f (kept_at c.trees k) ≡ option_and_then f (slice_get c.state.cells k)
  kept_here f none k = kept_same f none c.p c.graph c.trees c.state c.match_states k

  pub cell_count : length c.trees.cells ≡ length c.state.cells
  cell_count = zip_length (CellsMatch c.p) c.trees.cells c.state.cells c.match_states.cells

  -- so it is of the cell of an operand
  pub held_same : {X : Type 0} (f : HeapCell → Option X)
      → ((number : ℕ) (values : List Value) → f (cell.Closure number values) ≡ None)
      → (o : Operand) (r : ℕ) (v : Value) → o.reg ≡ r → value_at c.frame.regs r ≡ Some v
      → option_and_then f (graph.cell_at c.state c.frame o)
      ≡ option_and_then f (kept_by c.trees v)
  held_same {X} f none o r v is has =
      ap (λ x. option_and_then f (option_and_then (λ k. slice_get c.state.cells k)
      (option_and_then reference_of x))) (has_value c o r v is has)
      ∙ by (reference_of v) where
        by : (reference : Option ℕ)
            → option_and_then f (option_and_then (λ k. slice_get c.state.cells k) reference)
            ≡ option_and_then f (option_and_then (kept_at c.trees) reference)
        by None = refl
        by (Some k) = sym (kept_here f none k)

  pub loaded_same : (slot : Slot) (o : Operand) (r : ℕ) (v : Value) → o.reg ≡ r
      → value_at c.frame.regs r ≡ Some v
      → graph.loaded c.state c.frame o slot ≡ loaded c.trees slot v
  loaded_same slot o r v is has = held_same (slot_of slot) (no_slot slot) o r v is has

  slot_same : (slot : Slot) (o : Operand) (r : ℕ) (v : Value) → o.reg ≡ r
      → value_at c.frame.regs r ≡ Some v
      → graph.slot_at c.state c.frame o slot ≡ slot_at c.trees slot v
  slot_same slot o r v is has =
      ap (λ x. option_and_then (λ k. option_map (λ old. k)
      (option_and_then (slot_of slot) (slice_get c.state.cells k)))
      (option_and_then reference_of x)) (has_value c o r v is has)
      ∙ by (reference_of v) where
        by : (reference : Option ℕ)
            → option_and_then (λ k. option_map (λ old. k)
            (option_and_then (slot_of slot) (slice_get c.state.cells k))) reference
            ≡ option_and_then (λ k. option_map (λ old. k)
            (option_and_then (slot_of slot) (kept_at c.trees k))) reference
        by None = refl
        by (Some k) = ap (option_map (λ old. k)) (sym (kept_here (slot_of slot) (no_slot slot) k))

  -- a value is written into a slot
  pub writes_slot : (slot : Slot) (rest : Work) (all : List ℕ) (temps : List Value)
      (numbers : List ℕ) (i : Instr) (into o : Operand) (r s : ℕ) (holder v : Value)
      → Have c temps numbers → IsInstr c.function (here c all) i → Rest c rest (later c numbers)
      → into.reg ≡ r → value_at c.frame.regs r ≡ Some holder → o.reg ≡ s
      → value_at c.frame.regs s ≡ Some v
      → instr_effect c.graph c.state c.depth c.frame (next c) i
      ≡ slot_write c.state c.frame (next c) into slot o
      → Relates c (writes c.trees slot holder v temps rest c.tree)
  writes_slot slot rest all temps numbers i into o r s holder v are here_is stands at holds from has
      is = by (slot_at c.trees slot holder) (now_is c all i here_is ∙ is
      ∙ ap (λ x. needs x (λ w. needs (graph.slot_at c.state c.frame into slot)
      (λ k. effect.Write k slot w (next c)))) (has_value c o s v from has)
      ∙ ap (λ x. needs x (λ k. effect.Write k slot v (next c)))
      (slot_same slot into r holder at holds)) where
        by : (found : Option ℕ) → now c ≡ needs found (λ k. effect.Write k slot v (next c))
            → Relates c (option_and_then (λ k. besides (Writes k slot v) temps rest c.tree) found)
        by None is = is
        by (Some k) is = subst (Related c (besides (Writes k slot v) temps rest c.tree)) (sym is)
            (refl, refl, refl, passed c None rest temps numbers are tt stands)

  -- a cell is made
  pub adds_cell : (rest : Work) (all : List ℕ) (temps : List Value) (numbers : List ℕ)
      (made : ℕ → Instr) (one : TreeCell) (other : HeapCell) → Have c temps numbers
      → (g : Gives c.function (here c all) numbers made (λ r. Rest c rest (later c (r ∷ numbers))))
      → CellsMatch c.p one other
      → instr_effect c.graph c.state c.depth c.frame (next c) (made g.r)
      ≡ new_of c.state (next c) g.r other
      → Relates c (adds c.trees one temps rest c.tree)
  adds_cell rest all temps numbers made one other are g same is =
      subst (Related c (adds c.trees one temps rest c.tree)) (sym (now_is c all (made g.r) g.is ∙ is)) (
        same,
        subst (λ n. Follows c None (record c.tree {
          temps = value.Cell (length c.trees.cells) ∷ temps;
          work = rest;
        }) (finish_instr g.r (value.Cell n) (next c) c.frame)) cell_count
            (given c rest temps numbers g.r (value.Cell (length c.trees.cells)) are g.free g.next),
      )

  pub load_part_does : (i : ℕ) → Does c (work.LoadPart i)
  load_part_does i rest temps numbers are act = on_one c _ _ temps numbers are act
      (λ v s more others has below on.
      sets c rest numbers more others (λ r. instr.LoadProp on.0 r on.1.0 i) below on.1.2
      (loaded c.trees (slots.Part i) v)
      (ap (λ o. needs o (λ w. effect.Set on.1.2.r w (next c)))
      (loaded_same (slots.Part i) on.1.0 s v on.1.1 has)))

  pub store_part_does : (i : ℕ) → Does c (work.StorePart i)
  store_part_does i rest temps numbers are act = on_one c _ _ temps numbers are act
      (λ holder k more others first below on. on_one c _ _ more others below on
      (λ v s less fewer second lower on.
      let into = on.1.0 in
      let from = on.1.2 in
      writes_slot (slots.Part i) rest numbers less fewer (instr.StoreProp on.0 into i from.0) into
      from.0 k s holder v lower from.2.0 from.2.1 on.1.1 first from.1 second refl))

  pub load_global_does : (g : ℕ) → Does c (work.LoadGlobal g)
  load_global_does g rest temps numbers are act =
      sets c rest numbers temps numbers (λ r. instr.LoadGlobal act.0 r g) are act.1
      (value_at c.trees.globals g)
      (ap (λ globals. needs (value_at globals g) (λ w. effect.Set act.1.r w (next c)))
      (sym c.match_states.globals))

  pub store_global_does : (g : ℕ) → Does c (work.StoreGlobal g)
  store_global_does g rest temps numbers are act = on_one c _ _ temps numbers are act
      (λ v s more others has below on.
      let from = on.1 in
      by v more others below from.2.1 (slice_get c.trees.globals g)
      (now_is c numbers (instr.StoreGlobal on.0 g from.0) from.2.0
      ∙ ap (λ o. needs o (λ w. needs (slice_get c.state.globals g)
      (λ old. effect.WriteGlobal g w (next c)))) (has_value c from.0 s v from.1 has)
      ∙ ap (λ globals. needs (slice_get globals g) (λ old. effect.WriteGlobal g v (next c)))
      (sym c.match_states.globals))) where
        by : (v : Value) (more : List Value) (others : List ℕ) → Have c more others
            → Rest c rest (later c others) → (found : Option (Option Value))
            → now c ≡ needs found (λ old. effect.WriteGlobal g v (next c))
            → Relates c (option_and_then (λ old. besides (WritesGlobal g v) more rest c.tree) found)
        by v more others below stands None is = is
        by v more others below stands (Some old) is =
            subst (Related c (besides (WritesGlobal g v) more rest c.tree)) (sym is)
            (refl, refl, passed c None rest more others below tt stands)

  -- the effect of an initialiser's last instruction
  made_now : (kind : ShapeKind) (at r number : ℕ) (os : List Operand)
      → instr_effect c.graph c.state c.depth c.frame (next c) (made_instr kind at r number os)
      ≡ needs (values_at c.frame.regs os)
      (λ parts. new_of c.state (next c) r (new_cell kind number parts))
  made_now shapes.Struct at r number os = refl
  made_now shapes.Enum at r number os = refl
  made_now shapes.Class at r number os = refl
  made_now shapes.Actor at r number os = refl

  pub new_does : (number : ℕ) (shape : Shape) (names : List ℕ) → Does c (work.New number shape names)
  new_does number shape names rest temps numbers are act =
      on_many c (NewAt number shape names c.function (here c numbers) (Rest c rest))
      (λ values more. option_and_then
      (λ parts. adds c.trees (Kept (new_cell shape.kind number parts)) more rest c.tree)
      (each_of (λ (part : Part). given_to names values part.name) shape.parts)) (length names) temps
      numbers are act
      (λ values own more others have below on.
      by own more others below on
      (each_of (λ (part : Part). given_to names values part.name) shape.parts)
      (made_now shape.kind on.0 on.3.r number on.1
      ∙ ap (λ found. needs found
      (λ parts. new_of c.state (next c) on.3.r (new_cell shape.kind number parts)))
      (parts_are c.frame.regs names values own shape.parts on.1 have on.2))) where
        by : (own : List ℕ) (more : List Value) (others : List ℕ) → Have c more others
            → (on : NewAt number shape names c.function (here c numbers) (Rest c rest) own others)
            → (found : Option (List Value))
            → instr_effect c.graph c.state c.depth c.frame (next c)
            (made_instr shape.kind on.0 on.3.r number on.1)
            ≡ needs found (λ parts. new_of c.state (next c) on.3.r (new_cell shape.kind number parts))
            → Relates c (option_and_then
            (λ parts. adds c.trees (Kept (new_cell shape.kind number parts)) more rest c.tree) found)
        by own more others below on None is =
            now_is c numbers (made_instr shape.kind on.0 on.3.r number on.1) on.3.is ∙ is
        by own more others below on (Some parts) is =
            adds_cell rest numbers more others (λ r. made_instr shape.kind on.0 r number on.1)
            (Kept (new_cell shape.kind number parts)) (new_cell shape.kind number parts) below on.3
            (refl, no_closure shape.kind number parts) is

  no_task : (number : ℕ) (values : List Value) → task_of (cell.Closure number values) ≡ None
  no_task number values = refl

  pub await_does : Does c work.Await
  await_does rest temps numbers are act = on_one c _ _ temps numbers are act
      (λ v s more others has below on.
      let g = on.1.2 in
      by more others below on.1.2 (option_and_then task_of (kept_by c.trees v))
      (now_is c numbers (instr.Await on.0 g.r on.1.0) g.is
      ∙ ap (λ x. needs x (λ job. effect.Wait job g.r (next c)))
      (held_same task_of no_task on.1.0 s v on.1.1 has))) where
        by : {made : ℕ → Instr} (more : List Value) (others : List ℕ) → Have c more others
            → (g : Gives c.function (here c numbers) others made
            (λ r. Rest c rest (later c (r ∷ others))))
            → (found : Option ℕ)
            → now c ≡ needs found (λ job. effect.Wait job g.r (next c))
            → Relates c (option_and_then (λ job. besides (Waits job) more rest c.tree) found)
        by more others below g None is = is
        by more others below g (Some job) is =
            subst (Related c (besides (Waits job) more rest c.tree)) (sym is)
            (refl, passed c (Some g.r) rest more others below g.free g.next)

  pub yield_does : Does c work.Yield
  yield_does rest temps numbers are act =
      let g = act.1 in
      subst (Related c (besides Rests (value.Unit ∷ temps) rest c.tree))
      (sym (now_is c numbers (instr.Yield act.0 g.r) g.is))
      (given c rest temps numbers g.r value.Unit are g.free g.next)
