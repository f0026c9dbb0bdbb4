-- What is noted of a key of a program, as that of a body, of a call or of a crossing read, is one
-- note.
use Rattle.std.proofs.Common.{◌≡◌, ℕ, zero, suc, ◌+◌, ◌≤◌, Bool, true, false, List, [], ◌∷◌, ◌++◌}
use Rattle.std.proofs.Common.{None, Contains, refl, sym, ◌∙◌, arith, inl, inr, cond}
use Rattle.std.proofs.lemmas.List.Elements.{Contains-append_cases}
use Rattle.std.specs.Prelude.{◌&&◌}
use Rattle.sw_tree.specs.Contents.{AreKeyed}
use Rattle.sw_tree.specs.declared.decl.Decl.{Decl}
use Rattle.sw_tree.specs.declared.decl.Decl.TheVariants.{Actor, Class, Entry, Enum, Func, Global}
use Rattle.sw_tree.specs.declared.decl.Decl.TheVariants.{GlobalActor, Struct}
use Rattle.sw_tree.specs.declared.decl.PropTree.{PropTree}
use Rattle.sw_tree.proofs.Counting.{hits, in_all, in_all-cons, in_option}
use Rattle.sw_tree.proofs.KeyCounts as keys
use Rattle.sw_tree.proofs.KeyCounts.{in_decl, in_expr}
use Rattle.sw_types.specs.declared.isolation.Iso.{Iso}
use Rattle.sw_decl_words.specs.Shaped.{written_actor}
use Rattle.sw_decl_words.specs.Words.{shapes_made}
use Rattle.sw_decls.specs.Signatures.{actor_iso}
use Rattle.sw_decls.specs.declared.signature.AsyncDefault.{AsyncDefault}
use Rattle.sw_typing_rules.specs.Worlds.{IsWorldOf, World}
use Rattle.sw_isolation_rules.specs.Answers.{Answers}
use Rattle.sw_isolation_rules.specs.Kinds.{is_isolated}
use Rattle.sw_isolation_rules.specs.Noting.{body_note}
use Rattle.sw_isolation_rules.specs.Programs.{decl_notes, getter_notes, global_notes, noted}
use Rattle.sw_isolation_rules.specs.Programs.{notes_from, value_notes}
use Rattle.sw_isolation_rules.specs.declared.note.Note.{Note}
use Rattle.sw_typing_facts.proofs.Lists.Listed.{only_in}
use Rattle.sw_typing_facts.proofs.Programs.Keyed.{counted_in, key_once, one_item}
use Rattle.sw_lower_placed_facts.proofs.Settling.Counts.{few, few_body, few_join, marks, none_nothing}
use Rattle.sw_lower_placed_facts.proofs.Settling.Members.{body_few, funcs_few, object_few, value_few}

module _ (c : ℕ) where
  -- Of a key that stands so often: where it doesn't, nothing is noted, and where it stands once,
  -- one note is.
  pub record Once (notes : List Note) (n : ℕ) : Type 0 where
    pub none : n ≡ 0 → few c notes ≡ 0
    pub same : n ≤ 1 → (one other : Note) → Contains notes one → Contains notes other
        → 1 ≤ marks one c → 1 ≤ marks other c → one ≡ other

  once_few : (notes : List Note) (n : ℕ) → few c notes ≤ n → Once notes n
  once_few notes n most = record {
    none = λ is. omega (arith, is, most);
    same = λ once one other has holds here there.
        one_item marks notes one other c (omega (arith, once, most)) has holds here there;
  }

  once_up : (notes : List Note) (a n : ℕ) → Once notes a → a ≤ n → Once notes n
  once_up notes a n once most = record {
    none = λ is. once.none (omega (arith, is, most));
    same = λ few. once.same (omega (arith, few, most));
  }

  -- A key of which something is noted stands there.
  stands : (notes : List Note) (n : ℕ) (note : Note) → Once notes n → Contains notes note
      → 1 ≤ marks note c → 1 ≤ n
  stands notes zero note once has here =
      absurd (omega (arith, once.none refl, counted_in marks notes note c has, here))
  stands notes (suc n) note once has here = omega arith

  once_both : (one other : List Note) (a b n : ℕ) → Once one a → Once other b → a + b ≤ n
      → Once (one ++ other) n
  once_both one other a b n first second most = record {
    none = λ is. omega (
      arith,
      few_join c one other,
      first.none (omega (arith, is, most)),
      second.none (omega (arith, is, most)),
    );
    same = λ once x y has holds here there.
        elim (Contains-append_cases one other x has) [
          | inl left ↦ elim (Contains-append_cases one other y holds) [
            | inl too ↦ first.same (omega (arith, once, most)) x y left too here there
            | inr right ↦ absurd (omega (
              arith,
              once,
              most,
              stands one a x first left here,
              stands other b y second right there,
            ))
          ]
          | inr right ↦ elim (Contains-append_cases one other y holds) [
            | inl left ↦ absurd (omega (
              arith,
              once,
              most,
              stands one a y first left there,
              stands other b x second right here,
            ))
            | inr too ↦ second.same (omega (arith, once, most)) x y right too here there
          ]
        ];
  }

  -- the note of a body, once or twice
  repeated : (at : ℕ) (iso : Iso) (more : Bool) (note : Note)
      → Contains (body_note at iso false ∷ cond more (body_note at iso false ∷ []) []) note
      → body_note at iso false ≡ note
  repeated at iso false note has = only_in (body_note at iso false) note has
  repeated at iso true note has =
      elim (Contains-append_cases (body_note at iso false ∷ []) (body_note at iso false ∷ []) note
      has) [
        | inl here ↦ only_in (body_note at iso false) note here
        | inr there ↦ only_in (body_note at iso false) note there
      ]

  none_repeated : (at : ℕ) (iso : Iso) (more : Bool) → hits at c ≡ 0
      → few c (body_note at iso false ∷ cond more (body_note at iso false ∷ []) []) ≡ 0
  none_repeated at iso false is =
      omega (arith, is, few_body c [] (body_note at iso false), none_nothing c)
  none_repeated at iso true is =
      omega (
        arith,
        is,
        few_body c (body_note at iso false ∷ []) (body_note at iso false),
        few_body c [] (body_note at iso false),
        none_nothing c,
      )

  once_repeated : (at : ℕ) (iso : Iso) (more : Bool)
      → Once (body_note at iso false ∷ cond more (body_note at iso false ∷ []) []) (hits at c)
  once_repeated at iso more = record {
    none = none_repeated at iso more;
    same = λ once one other has holds here there.
        sym (repeated at iso more one has) ∙ repeated at iso more other holds;
  }

  module _ (decls : List Decl) (rule : AsyncDefault) (world : World)
      (is : IsWorldOf decls rule world) (answers : Answers) where
    once_global : (prop : PropTree)
        → Once (global_notes world answers prop) (in_decl (Global prop) c)
    unfolding global_notes
    once_global prop =
        let iso = actor_iso (written_actor world.known.top prop.written) in
        once_both (body_note prop.word.at iso false ∷ getter_notes prop iso)
        (value_notes world answers iso None prop.value) (hits prop.word.at c)
        (in_option in_expr prop.value c) (in_decl (Global prop) c)
        (once_repeated prop.word.at iso (prop.mutable && is_isolated iso))
        (once_few (value_notes world answers iso None prop.value) (in_option in_expr prop.value c)
        (value_few decls rule world is answers c iso None prop.value))
        (omega (arith, keys.in_decl-Global prop c, keys.in_prop-is prop c))

    once_decl : (number : ℕ) (decl : Decl)
        → Once (decl_notes world answers number decl) (in_decl decl c)
    unfolding decl_notes
    once_decl number (Entry word written at is_async body) =
        once_few _ _
        (omega (
          arith,
          body_few decls rule world is answers c at body,
          keys.in_decl-Entry word written at is_async body c,
        ))
    once_decl number (Struct word conforms fields funcs) =
        once_few _ _
        (omega (
          arith,
          funcs_few decls rule world is answers c funcs,
          keys.in_decl-Struct word conforms fields funcs c,
        ))
    once_decl number (Enum word conforms cases funcs) =
        once_few _ _
        (omega (
          arith,
          funcs_few decls rule world is answers c funcs,
          keys.in_decl-Enum word conforms cases funcs c,
        ))
    once_decl number (Class written word conforms props inits funcs) =
        once_few _ _
        (omega (
          arith,
          object_few decls rule world is answers c number word props inits funcs,
          keys.in_decl-Class written word conforms props inits funcs c,
        ))
    once_decl number (Actor word props inits funcs) =
        once_few _ _
        (omega (
          arith,
          object_few decls rule world is answers c number word props inits funcs,
          keys.in_decl-Actor word props inits funcs c,
        ))
    once_decl number (GlobalActor word made) = once_few [] _ (omega (arith, none_nothing c))
    once_decl number (Func func) =
        once_few _ _
        (omega (
          arith,
          body_few decls rule world is answers c func.word.at func.body,
          keys.in_decl-Func func c,
          keys.in_func-is func c,
        ))
    once_decl number (Global prop) = once_global prop

    once_decls : (number : ℕ) (some : List Decl)
        → Once (notes_from world answers number some) (in_all in_decl some c)
    once_decls number [] = once_few [] _ (omega (arith, none_nothing c))
    once_decls number (decl ∷ some) =
        once_both (decl_notes world answers number decl)
        (notes_from world answers (number + shapes_made decl) some) (in_decl decl c)
        (in_all in_decl some c) (in_all in_decl (decl ∷ some) c) (once_decl number decl)
        (once_decls (number + shapes_made decl) some)
        (omega (arith, in_all-cons in_decl decl some c))

    -- What is noted of a key is one note.
    pub one_note : AreKeyed decls → (one other : Note) → Contains (noted world answers decls) one
        → Contains (noted world answers decls) other → 1 ≤ marks one c → 1 ≤ marks other c
        → one ≡ other
    one_note keyed = (once_decls 0 decls).same (key_once decls keyed c)
