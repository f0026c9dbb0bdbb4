-- What lowering looks up is what is said and noted of the program.
use Rattle.std.proofs.Common.{◌≡◌, ℕ, List, [], ◌∷◌, Bool, true, false, Contains, ◌==◌}
use Rattle.std.proofs.Common.{refl, ap, sym, ◌∙◌, arith, zero, suc, ◌||◌}
use Rattle.std.proofs.lemmas.Grind.{common_steps}
use Rattle.std.proofs.lemmas.List.Elements.{Contains-append_right}
use Rattle.sw_isolation_table.specs.Known.{answers_of}
use Rattle.sw_isolation_table.proofs.Answering.{answers_are_said}
use Rattle.sw_isolation_table.specs.Isolated.{HasNotes, IsIsolated}
use Rattle.sw_isolation_table.specs.declared.isolated.Isolated.{Isolated}
use Rattle.sw_isolation_rules.specs.Answers.{Answers}
use Rattle.sw_isolation_rules.specs.Captures.{is_among}
use Rattle.sw_isolation_rules.specs.Lists.{bodies_in, boxes_in, captures_in, kinds_in}
use Rattle.sw_isolation_rules.specs.Programs.{noted}
use Rattle.sw_isolation_rules.specs.declared.note.Note.{Note}
use Rattle.sw_lower_known.specs.Knowledge.{isolation_of}
use Rattle.sw_lower_rules.specs.Bodies.{tables_of}
use Rattle.sw_lower_rules.specs.Tables.{isolation_by, isolation_in}
use Rattle.sw_tree.specs.declared.decl.Decl.{Decl}
use Rattle.sw_typing_table.specs.Typed.{IsTyped}
use Rattle.sw_typing_table.specs.declared.typed.Typed.{Typed}
use Rattle.sw_typing_rules.specs.Worlds.{World}
use Rattle.sw_verdict.specs.Phases.{isolation_of_program, tables_of_program}

-- what is among a list is in it, and the other way round

contained : (keys : List ℕ) (key : ℕ) → is_among keys key ≡ true → Contains keys key
contained [] key is = cc
contained (one ∷ keys) key is = by (one == key) refl is (contained keys key) where
  by : (here : Bool) → (one == key) ≡ here → (here || is_among keys key) ≡ true
      → (is_among keys key ≡ true → Contains keys key) → Contains (one ∷ keys) key
  by true same is later =
      let it : one ≡ key = grind (arith, common_steps) in (0, omega arith, it)
  by false other is later = Contains-append_right (one ∷ []) keys key (later is)

among : (keys : List ℕ) (key : ℕ) → Contains keys key → is_among keys key ≡ true
among [] key (k, lt, is) = absurd (omega (arith, lt))
among (one ∷ keys) key (zero, lt, is) = grind (arith, common_steps)
among (one ∷ keys) key (suc k, lt, is) =
    by (one == key) (among keys key (k, omega (arith, lt), is)) where
      by : (here : Bool) → is_among keys key ≡ true → (here || is_among keys key) ≡ true
      by true later = refl
      by false later = later

by_truth : (one other : Bool) → (one ≡ true → other ≡ true) → (other ≡ true → one ≡ true)
    → one ≡ other
by_truth true other there back = sym (there refl)
by_truth false true there back = back refl
by_truth false false there back = refl

pub isolation_is_noted : (notes : List Note) (isolated : Isolated) → HasNotes notes isolated
    → isolation_of isolated ≡ isolation_in notes
isolation_is_noted notes isolated is =
    let boxes : (key : ℕ) → is_among isolated.boxes key ≡ is_among (boxes_in notes) key =
    λ key. by_truth (is_among isolated.boxes key) (is_among (boxes_in notes) key)
    (λ has. among (boxes_in notes) key (is.boxes.from key (contained isolated.boxes key has)))
    (λ has. among isolated.boxes key (is.boxes.covers key (contained (boxes_in notes) key has))) in
    let lists : isolation_of isolated
    ≡ isolation_by (bodies_in notes) (kinds_in notes) (captures_in notes) isolated.boxes =
    λ i. record (isolation_by (is.bodies i) (is.kinds i) (is.captures i) isolated.boxes) {
      kind_at = λ key. is.kinds_by_key key i;
    } in
    let said = isolation_in notes in
    lists ∙ (λ i. record {
      body_at = said.body_at;
      kind_at = said.kind_at;
      captures_of = said.captures_of;
      is_boxed = λ key. boxes key i;
    })

pub isolation_is_said : (world : World) (decls : List Decl) (typed : Typed) (isolated : Isolated)
    → IsTyped world decls typed → IsIsolated world (answers_of typed) decls isolated
    → isolation_of isolated ≡ isolation_of_program world decls
isolation_is_said world decls typed isolated is_typed is_isolated =
    isolation_is_noted (noted world (answers_of typed) decls) isolated is_isolated
    ∙ ap (λ (answers : Answers). isolation_in (noted world answers decls))
    (answers_are_said world decls typed is_typed)

pub tables_are_said : (world : World) (decls : List Decl) (typed : Typed) (isolated : Isolated)
    → IsTyped world decls typed → IsIsolated world (answers_of typed) decls isolated
    → tables_of world (answers_of typed) (isolation_of isolated) decls
    ≡ tables_of_program world decls
tables_are_said world decls typed isolated is_typed is_isolated =
    ap (λ isolation. tables_of world (answers_of typed) isolation decls)
    (isolation_is_said world decls typed isolated is_typed is_isolated)
    ∙ ap (λ (answers : Answers). tables_of world answers (isolation_of_program world decls) decls)
    (answers_are_said world decls typed is_typed)
