-- Acts that find a value of temporaries, and acts on structs.
use Rattle.std.proofs.Common.{◌≡◌, ℕ, Option, Some, None, List, ◌∷◌, refl, ap, sym}
use Rattle.std.proofs.Common.{◌∙◌, subst}
use Rattle.std.specs.Prelude.{Result, Ok, Err, option_and_then, option_map}
use Rattle.sw_graph.specs.declared.instr.BinOp.{BinOp}
use Rattle.sw_graph.specs.declared.instr.Instr.{Instr}
use Rattle.sw_graph.specs.declared.instr.Instr.TheVariants as instr
use Rattle.sw_graph.specs.declared.instr.UnOp.{UnOp}
use Rattle.sw_value.specs.declared.effect.Effect.TheVariants as effect
use Rattle.sw_value.specs.declared.state.TrapKind.{TrapKind}
use Rattle.sw_value.specs.declared.value.Value.{Value}
use Rattle.sw_value.specs.declared.value.Value.TheVariants as value
use Rattle.sw_value.specs.Arithmetic.{binary, unary}
use Rattle.sw_value.specs.Effect.{computed_of, instr_effect, needs}
use Rattle.sw_value.specs.Lists.{each_of}
use Rattle.sw_value.specs.Printed.{line_of, printed_line, text_of}
use Rattle.sw_value.specs.Value.{field_of, made, operand_value, value_at, with_field}
use Rattle.sw_tree_work.specs.Work as work
use Rattle.sw_tree_work.specs.Work.{Work}
use Rattle.sw_tree_step.specs.Acting.{Prints, besides, computes, gives, may_give}
use Rattle.sw_spots.specs.Spots.{Gives, IsFree, IsInstr, MakeAt, PrintAt}
use Rattle.sw_tree_same.proofs.Following.{given, kept, parted}
use Rattle.sw_tree_same.proofs.Places.{instr_here}
use Rattle.sw_tree_same.proofs.Registers.{texts_are, values_are}
use Rattle.sw_tree_same.proofs.Scene.{Does, Have, Relates, Rest, Scene, has_value, here, later, next}
use Rattle.sw_tree_same.proofs.Scene.{Related, now, on_many, on_one}

module _ (c : Scene) where
  pub now_is : (all : List ℕ) (instr : Instr) → IsInstr c.function (here c all) instr
      → now c ≡ instr_effect c.graph c.state c.depth c.frame (next c) instr
  now_is all instr is =
      instr_here c.graph c.state c.depth c.frame c.function (here c all) c.at instr is

  -- An instruction gives a value, if it is there.
  pub sets : (rest : Work) (all : List ℕ) (temps : List Value) (numbers : List ℕ)
      (made : ℕ → Instr) → Have c temps numbers
      → (g : Gives c.function (here c all) numbers made (λ r. Rest c rest (later c (r ∷ numbers))))
      → (found : Option Value)
      → instr_effect c.graph c.state c.depth c.frame (next c) (made g.r)
      ≡ needs found (λ v. effect.Set g.r v (next c))
      → Relates c (may_give found temps rest c.tree)
  sets rest all temps numbers made are g None is = now_is all (made g.r) g.is ∙ is
  sets rest all temps numbers made are g (Some v) is =
      subst (Related c (gives v temps rest c.tree)) (sym (now_is all (made g.r) g.is ∙ is))
      (given c rest temps numbers g.r v are g.free g.next)

  -- what an operator computes
  computed : (rest : Work) (all : List ℕ) (temps : List Value) (numbers : List ℕ) (place : ℕ)
      (made : ℕ → Instr) → Have c temps numbers
      → (g : Gives c.function (here c all) numbers made (λ r. Rest c rest (later c (r ∷ numbers))))
      → (result : Option (Result Value TrapKind))
      → instr_effect c.graph c.state c.depth c.frame (next c) (made g.r)
      ≡ needs result (computed_of (next c) place g.r)
      → Relates c (option_and_then (computes place temps rest c.tree) result)
  computed rest all temps numbers place made are g None is = now_is all (made g.r) g.is ∙ is
  computed rest all temps numbers place made are g (Some (Ok v)) is =
      sets rest all temps numbers made are g (Some v) is
  computed rest all temps numbers place made are g (Some (Err kind)) is =
      subst (Related c (computes place temps rest c.tree (Err kind)))
      (sym (now_is all (made g.r) g.is ∙ is)) (refl, refl, refl)

  pub literal_does : (v : Value) → Does c (work.Literal v)
  literal_does v rest temps numbers are act =
      sets rest numbers temps numbers (λ r. instr.Const act.0 r act.1) are act.3 (Some v)
      (ap (λ w. effect.Set act.3.r w (next c)) act.2)

  pub unary_does : (place : ℕ) (op : UnOp) → Does c (work.Unary place op)
  unary_does place op rest temps numbers are act = on_one c _ _ temps numbers are act
      (λ v s more others has below on.
      computed rest numbers more others place (λ r. instr.Un place r op on.0) below on.2 (unary op v)
      (ap (λ o. needs (option_and_then (unary op) o) (computed_of (next c) place on.2.r))
      (has_value c on.0 s v on.1 has)))

  pub binary_does : (place : ℕ) (op : BinOp) → Does c (work.Binary place op)
  binary_does place op rest temps numbers are act = on_one c _ _ temps numbers are act
      (λ w t more others right below on. on_one c _ _ more others below on
      (λ v s less fewer left lower on.
      computed rest numbers less fewer place (λ r. instr.Bin place r op on.0 on.2.0) lower on.2.2
      (binary op v w)
      (ap (λ o. needs o (λ x. needs (option_and_then (binary op x)
      (operand_value c.frame.regs on.2.0)) (computed_of (next c) place on.2.2.r)))
      (has_value c on.0 s v on.1 left)
      ∙ ap (λ o. needs (option_and_then (binary op v) o) (computed_of (next c) place on.2.2.r))
      (has_value c on.2.0 t w on.2.1 right))))

  pub keep_does : Does c work.Keep
  keep_does rest temps numbers are act = on_one c _ _ temps numbers are act
      (λ v s more others has below on.
      let g = on.1.2 in
      subst (Related c (gives v (v ∷ more) rest c.tree))
      (sym (now_is numbers (instr.Copy on.0 g.r on.1.0) g.is
      ∙ ap (λ o. needs o (λ w. effect.Set g.r w (next c))) (has_value c on.1.0 s v on.1.1 has)))
      (kept c rest more s others g.r v (has, below) g.free g.next))

  pub replace_does : Does c work.Replace
  replace_does rest temps numbers are act = on_one c _ _ temps numbers are act
      (λ v s more others has below on. on_one c _ _ more others below on
      (λ old r less fewer was lower on.
      let found = on.1.2 in
      subst (Related c (gives v less rest c.tree))
      (sym (now_is numbers (instr.Copy on.0 r on.1.0) found.1
      ∙ ap (λ o. needs o (λ w. effect.Set r w (next c))) (has_value c on.1.0 s v on.1.1 has)))
      (given c rest less fewer r v lower found.0 found.2)))

  pub print_does : (count : ℕ) → Does c (work.Print count)
  unfolding printed_line
  print_does count rest temps numbers are act =
      on_many c (PrintAt c.function (here c numbers) (Rest c rest))
      (λ values more. option_and_then
      (λ texts. besides (Prints (line_of texts)) (value.Unit ∷ more) rest c.tree)
      (each_of text_of values)) count temps numbers are act
      (λ values own more others have below on.
      let g = on.1.2 in
      by more others own below on (each_of text_of values)
      (now_is numbers (instr.Print on.0 g.r on.1.0) g.is
      ∙ ap (λ texts. needs (option_map line_of texts) (λ line. effect.Print g.r line (next c)))
      (texts_are c.frame.regs on.1.0 values own on.1.1 have))) where
        by : (more : List Value) (others own : List ℕ) → Have c more others
            → (on : PrintAt c.function (here c numbers) (Rest c rest) own others)
            → (texts : Option (List (List ℕ)))
            → now c ≡ needs (option_map line_of texts) (λ line. effect.Print on.1.2.r line (next c))
            → Relates c (option_and_then
            (λ lines. besides (Prints (line_of lines)) (value.Unit ∷ more) rest c.tree) texts)
        by more others own below on None is = is
        by more others own below on (Some texts) is =
            subst (Related c (besides (Prints (line_of texts)) (value.Unit ∷ more) rest c.tree))
            (sym is) (
              refl,
              given c rest more others on.1.2.r value.Unit below on.1.2.free on.1.2.next,
            )

  pub field_does : (i : ℕ) → Does c (work.Field i)
  field_does i rest temps numbers are act = on_one c _ _ temps numbers are act
      (λ v s more others has below on.
      sets rest numbers more others (λ r. instr.Field on.0 r on.1.0 i) below on.1.2 (field_of i v)
      (ap (λ o. needs (option_and_then (field_of i) o) (λ w. effect.Set on.1.2.r w (next c)))
      (has_value c on.1.0 s v on.1.1 has)))

  pub make_does : (tag : Option ℕ) (count : ℕ) → Does c (work.Make tag count)
  make_does tag count rest temps numbers are act =
      on_many c (MakeAt tag c.function (here c numbers) (Rest c rest))
      (λ values more. gives (made tag values) more rest c.tree) count temps numbers are act
      (λ values own more others have below on.
      let g = on.2.2 in
      sets rest numbers more others (λ r. instr.Make on.0 r on.1 tag on.2.0) below g
      (Some (made tag values))
      (ap (λ o. needs o (λ parts. effect.Set g.r (made tag parts) (next c)))
      (values_are c.frame.regs on.2.0 values own on.2.1 have)))

  pub set_field_does : (i : ℕ) → Does c (work.SetField i)
  set_field_does i rest temps numbers are act = on_one c _ _ temps numbers are act
      (λ old s more others first below on. on_one c _ _ more others below on
      (λ copy r less fewer second lower on. on_one c _ _ less fewer lower on
      (λ part t none last third bottom on.
      let target = on.1.0 in
      let o = on.1.2.0 in
      let is = on.1.2.2 in
      by copy part r none last second bottom is.0 is.2 (field_of i copy)
      (now_is numbers (instr.SetField on.0 target i o) is.1
      ∙ ap (λ x. needs x (λ v. needs (option_and_then (field_of i)
      (operand_value c.frame.regs target)) (λ was. effect.SetField target.reg i v (next c))))
      (has_value c o t part on.1.2.1 third)
      ∙ ap (λ x. needs (option_and_then (field_of i) x)
      (λ was. effect.SetField target.reg i part (next c))) (has_value c target r copy on.1.1 second)
      ∙ ap (λ n. needs (field_of i copy) (λ was. effect.SetField n i part (next c))) on.1.1)))) where
        by : (copy part : Value) (r : ℕ) (more : List Value) (others : List ℕ)
            → value_at c.frame.regs r ≡ Some copy → Have c more others
            → IsFree c.function r c.vars others → Rest c rest (later c (r ∷ others))
            → (found : Option Value)
            → now c ≡ needs found (λ was. effect.SetField r i part (next c))
            → Relates c (option_and_then
            (λ was. gives (with_field i part copy) more rest c.tree) found)
        by copy part r more others has below free stands None is = is
        by copy part r more others has below free stands (Some was) is =
            subst (Related c (gives (with_field i part copy) more rest c.tree)) (sym is)
            (parted c rest more others r i part copy below free has stands)
