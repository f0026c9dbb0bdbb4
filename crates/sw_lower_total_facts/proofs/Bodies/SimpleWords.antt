-- What words mean in simple values: a parameter, an enum before its case, or a type that is made.
use Rattle.std.proofs.Common.{◌≡◌, ℕ, Bool, true, false, List, [], ◌++◌, Option, Some, None}
use Rattle.std.proofs.Common.{is_some, refl, sym, ap, ◌∙◌, subst, true≢false, ◌⊎◌, inl, inr}
use Rattle.std.proofs.lemmas.Option.{none-some}
use Rattle.std.specs.Prelude.{if◌then◌else◌, slice_get}
use Rattle.sw_tree.specs.declared.name.Name.{Name}
use Rattle.sw_types.specs.declared.shape.Shape.{Shape}
use Rattle.sw_types.specs.declared.shape.ShapeKind.{ShapeKind}
use Rattle.sw_types.specs.declared.shape.ShapeKind.TheVariants as kinds
use Rattle.sw_types.specs.declared.ty.Ty.{Ty}
use Rattle.sw_decl_words.specs.Evident.{enum_of, hides, made_type}
use Rattle.sw_decl_words.specs.declared.members.Member.{Member}
use Rattle.sw_decl_words.specs.declared.words.Meaning as words
use Rattle.sw_decl_words.specs.declared.words.Meaning.TheVariants as word
use Rattle.sw_decl_values.specs.Simple.{read}
use Rattle.sw_decls.specs.declared.signature.Signature.{Signature}
use Rattle.sw_typing_rules.specs.Calls.{Callee, Slot, Takes, Uncallable, callee_meaning}
use Rattle.sw_typing_rules.specs.Calls.{func_callee, make_callee, signature_callee, struct_callee}
use Rattle.sw_typing_rules.specs.Calls.{word_callee}
use Rattle.sw_typing_rules.specs.Expressions.{Passed, call_callee, call_judged, word_judged}
use Rattle.sw_typing_rules.specs.Verdicts.{meaning_rows, rows_of}
use Rattle.sw_typing_rules.specs.Words.{Sense, Setting, Top, Variable, local, local_sense}
use Rattle.sw_typing_rules.specs.Words.{member_sense, owned, sense, top_sense, word_enum}
use Rattle.sw_typing_rules.specs.Words.{word_meaning, word_types}
use Rattle.sw_typing_rules.specs.Worlds.{World, and_then}
use Rattle.sw_typing_rules.specs.declared.row.Meaning.TheVariants as means
use Rattle.sw_typing_rules.specs.declared.scope.Var.{Var}
use Rattle.sw_isolation_rules.specs.Answers.{Answers}
use Rattle.sw_typing_facts.specs.Rows.{RowsHold}
use Rattle.sw_lower_formed_facts.proofs.Expressions.Arguments.{HaveTypes}
use Rattle.sw_lower_formed_facts.proofs.Expressions.Callees.{meaning_is, never_called}

-- What a type that is made is called by: it means that it is made, or can't be called.
abbrev MakesOr : Callee → ℕ → Type 0
MakesOr callee number = ((slots : List Slot) × (result : Ty)
    × (callee ≡ Takes (means.MakeOf number) slots result))
    ⊎ ((code : ℕ) × (callee ≡ Uncallable code))

module _ (world : World) (answers : Answers) (setting : Setting) (params : ℕ → Option ℕ)
    (agrees : (id : ℕ) → is_some (params id) ≡ is_some (local setting.vars id)) where
  abbrev read_of : ℕ → Option words.Meaning
  read_of id = read world.known setting.owner params id

  -- what a word means where no variable has its name and no member of the type around
  top_sense_is : (id : ℕ) (meaning : words.Meaning) → local setting.vars id ≡ None
      → hides world.known setting.owner id ≡ false → world.known.top id ≡ Some meaning
      → sense world setting id ≡ Top meaning
  top_sense_is id meaning no_var shown is =
      ap (λ found. local_sense found (member_sense setting.owner (owned world setting.owner id)
      (top_sense (world.known.top id) id))) no_var
      ∙ around setting.owner shown
      ∙ ap (λ found. top_sense found id) is where
        member : (k : ℕ) (found : Option Member) → is_some found ≡ false
            → member_sense (Some k) found (top_sense (world.known.top id) id)
            ≡ top_sense (world.known.top id) id
        member k None none = refl
        member k (Some one) none = absurd (true≢false none)

        around : (owner : Option ℕ) → hides world.known owner id ≡ false
            → member_sense owner (owned world owner id) (top_sense (world.known.top id) id)
            ≡ top_sense (world.known.top id) id
        around None shown = refl
        around (Some k) shown = member k (world.known.members k id) shown

  -- what is read of a word that is no parameter
  pub read_top : (id : ℕ) (meaning : words.Meaning) → read_of id ≡ Some meaning
      → sense world setting id ≡ Top meaning
  read_top id meaning is = by (is_some (params id)) refl is where
    no_var : (found : Option Var) → local setting.vars id ≡ found → is_some found ≡ false
        → local setting.vars id ≡ None
    no_var None at none = at
    no_var (Some one) at none = absurd (true≢false none)

    shown : (hidden : Bool) → hides world.known setting.owner id ≡ hidden
        → (if hidden then None else world.known.top id) ≡ Some meaning
        → local setting.vars id ≡ None → sense world setting id ≡ Top meaning
    shown true at is none = absurd (none-some meaning is)
    shown false at is none = top_sense_is id meaning none at is

    by : (param : Bool) → is_some (params id) ≡ param
        → (if param then None else (if hides world.known setting.owner id then None
        else world.known.top id)) ≡ Some meaning
        → sense world setting id ≡ Top meaning
    by true at is = absurd (none-some meaning is)
    by false at is =
        shown (hides world.known setting.owner id) refl is
        (no_var (local setting.vars id) refl (sym (agrees id) ∙ at))

  -- A word that is a parameter means a variable.
  pub param_means : (name : Name) → RowsHold answers (word_judged world setting name).rows
      → is_some (params name.id) ≡ true
      → (variable : ℕ) × (answers.meaning_at name.at ≡ Some (means.Local variable))
  param_means name rows param =
      by (local setting.vars name.id) refl (sym (agrees name.id) ∙ param) where
        by : (found : Option Var) → local setting.vars name.id ≡ found → is_some found ≡ true
            → (variable : ℕ) × (answers.meaning_at name.at ≡ Some (means.Local variable))
        by None at some = absurd (true≢false (sym some))
        by (Some one) at some =
            let is : sense world setting name.id ≡ Variable one =
            ap (λ found. local_sense found (member_sense setting.owner
            (owned world setting.owner name.id) (top_sense (world.known.top name.id) name.id)))
            at in (
              one.at,
              (subst (λ (s : Sense). RowsHold answers (meaning_rows name.at (word_meaning s)
                  ++ rows_of name.at (word_types world s))) is rows).0,
            )

  -- A word that is read as an enum names it.
  pub enum_named : (name : Name) (k : ℕ) → enum_of (read_of name.id) ≡ Some k
      → (word_judged world setting name).enum ≡ Some k
  enum_named name k is = by (read_of name.id) refl is where
    by : (found : Option words.Meaning) → read_of name.id ≡ found → enum_of found ≡ Some k
        → (word_judged world setting name).enum ≡ Some k
    by None at is = absurd (none-some k is)
    by (Some (word.Shape kinds.Struct number)) at is = absurd (none-some k is)
    by (Some (word.Shape kinds.Enum number)) at is =
        ap word_enum (read_top name.id (word.Shape kinds.Enum number) at) ∙ is
    by (Some (word.Shape kinds.Class number)) at is = absurd (none-some k is)
    by (Some (word.Shape kinds.Actor number)) at is = absurd (none-some k is)
    by (Some (word.GlobalActor number)) at is = absurd (none-some k is)
    by (Some (word.Func key)) at is = absurd (none-some k is)
    by (Some (word.Global number)) at is = absurd (none-some k is)
    by (Some word.Entry) at is = absurd (none-some k is)

  -- what makes a type
  struct_makes : (number : ℕ) (found : Option Shape) → MakesOr (struct_callee number found) number
  struct_makes number None = inr (401, refl)
  struct_makes number (Some shape) = inl (_, _, refl)

  signature_makes : (number : ℕ) (found : Option Signature)
      → MakesOr (signature_callee (means.MakeOf number) 401 found) number
  signature_makes number None = inr (401, refl)
  signature_makes number (Some func) = inl (_, _, refl)

  init_makes : (number : ℕ) (found : Option ℕ)
      → MakesOr (func_callee world (λ n. means.MakeOf number) 401 found) number
  init_makes number None = inr (401, refl)
  init_makes number (Some n) = signature_makes number (slice_get world.funcs n)

  makes : (kind : ShapeKind) (number : ℕ)
      → is_some (made_type (Some (word.Shape kind number))) ≡ true
      → MakesOr (make_callee world kind number) number
  makes kinds.Struct number some = struct_makes number (slice_get world.shapes number)
  makes kinds.Enum number some = absurd (true≢false (sym some))
  makes kinds.Class number some =
      init_makes number (and_then (slice_get world.makers number) world.numbers)
  makes kinds.Actor number some =
      init_makes number (and_then (slice_get world.makers number) world.numbers)

  -- A call by the word of a type that is made makes it.
  pub call_makes : (name : Name) (passed : Passed) (tys : List Ty) → HaveTypes passed.given tys
      → RowsHold answers (call_judged (call_callee world setting name) name.at [] passed).rows
      → is_some (made_type (read_of name.id)) ≡ true
      → (number : ℕ) × (answers.meaning_at name.at ≡ Some (means.MakeOf number))
  call_makes name passed tys have rows some = by (read_of name.id) refl some where
    Made : Type 0
    Made = (number : ℕ) × (answers.meaning_at name.at ≡ Some (means.MakeOf number))

    with_callee : (number : ℕ) (callee : Callee) → call_callee world setting name ≡ callee
        → MakesOr callee number → Made
    with_callee number callee is (inl made) = (
      number,
      meaning_is answers callee (means.MakeOf number) name.at [] passed
          (ap callee_meaning made.2)
          (subst (λ c. RowsHold answers (call_judged c name.at [] passed).rows) is rows),
    )
    with_callee number callee is (inr none) =
        absurd (never_called answers none.0 name.at [] passed tys have
        (subst (λ c. RowsHold answers (call_judged c name.at [] passed).rows)
        (is ∙ none.1) rows))

    by : (found : Option words.Meaning) → read_of name.id ≡ found
        → is_some (made_type found) ≡ true → Made
    by None at some = absurd (true≢false (sym some))
    by (Some (word.Shape kind number)) at some =
        with_callee number (make_callee world kind number)
        (ap (word_callee world) (read_top name.id (word.Shape kind number) at))
        (makes kind number some)
    by (Some (word.GlobalActor number)) at some = absurd (true≢false (sym some))
    by (Some (word.Func key)) at some = absurd (true≢false (sym some))
    by (Some (word.Global number)) at some = absurd (true≢false (sym some))
    by (Some word.Entry) at some = absurd (true≢false (sym some))
