-- Nothing is said of a word before a `.` that names an enum, where nodes have keys of their own.
use Rattle.std.proofs.Common.{◌≡◌, ℕ, ◌+◌, ◌≤◌, List, Some, None, arith, ap, Contains, Bool, true}
use Rattle.std.proofs.Common.{false, refl, ◌==◌, if◌then◌else◌}
use Rattle.std.proofs.lemmas.Grind.{common_steps}
use Rattle.std.proofs.lemmas.List.Elements.{All-contains_itself}
use Rattle.sw_tree.specs.Contents.{AreKeyed}
use Rattle.sw_tree.specs.Keys.{keys_of}
use Rattle.sw_tree.specs.declared.decl.Decl.{Decl}
use Rattle.sw_tree.proofs.Counting.{Weight, count, hits, hits_same, in_all}
use Rattle.sw_decl_words.specs.Evident.{Meanings, meanings_of}
use Rattle.sw_typing_rules.proofs.OneWorld.{distinct_once}
use Rattle.sw_typing_rules.specs.Programs.{BodyOf, ValueOf, said, bodies_from, values_from}
use Rattle.sw_typing_rules.specs.Worlds.{World}
use Rattle.sw_typing_rules.specs.declared.row.Meaning.{Meaning}
use Rattle.sw_typing_rules.specs.declared.row.Row.{Row}
use Rattle.sw_typing_rules.specs.declared.row.Row.TheVariants.{Ill, Means, Typed}
use Rattle.sw_isolation_rules.specs.Answers.{answers_in, meaning_in, meaning_row}
use Rattle.sw_typing_facts.proofs.Said.Counts.{Counts}
use Rattle.sw_typing_facts.proofs.Said.OneAnswer.{contained_counts, meanings_count, meanings_told}
use Rattle.sw_typing_facts.proofs.Said.OneAnswer.{none_answers}
use Rattle.sw_typing_facts.specs.EnumWords as words
use Rattle.sw_typing_facts.proofs.Said.Programs.{all_said, body_words, by_one, said_by_body}
use Rattle.sw_typing_facts.proofs.Said.Programs.{said_by_value, said_counts, value_words, with_one}
use Rattle.sw_typing_facts.proofs.Said.Programs.{words_of_body, words_of_value}

module _ (w : Row → Weight) (counts : Counts w) (world : World) where
  body_counts : (known : Meanings) (decls : List Decl) (body : BodyOf) (k : ℕ)
      → Contains (bodies_from world 0 decls) body
      → in_all w (said world decls) k + count (body_words world body) k
      ≤ in_all hits (keys_of decls) k
  body_counts known decls body k has =
      omega (
        arith,
        said_counts w counts world decls k,
        all_said w counts world known decls k,
        with_one (said_by_body w counts world) (words_of_body world) (bodies_from world 0 decls)
            body k has,
        by_one (said_by_value w counts world) (words_of_value world) (values_from world 0 decls) k,
      )

  value_counts : (known : Meanings) (decls : List Decl) (value : ValueOf) (k : ℕ)
      → Contains (values_from world 0 decls) value
      → in_all w (said world decls) k + count (value_words world value) k
      ≤ in_all hits (keys_of decls) k
  value_counts known decls value k has =
      omega (
        arith,
        said_counts w counts world decls k,
        all_said w counts world known decls k,
        by_one (said_by_body w counts world) (words_of_body world) (bodies_from world 0 decls) k,
        with_one (said_by_value w counts world) (words_of_value world) (values_from world 0 decls)
            value k has,
      )

-- a key in a list counts there
key_counts : (keys : List ℕ) (key : ℕ) → Contains keys key → 1 ≤ count keys key
key_counts keys key has = omega (arith, contained_counts hits keys key key has, hits_same key)

no_meaning_answered : (rows : List Row) (at : ℕ) → in_all meanings_told rows at ≡ 0
    → meaning_in rows at ≡ None
no_meaning_answered rows at is =
    none_answers meanings_told at (meaning_row at) (λ more. meaning_in more at) refl
    (λ row more. refl) (untold at) rows is where
      unlike : (key at : ℕ) (x : Meaning) → hits key at ≡ 0
          → (if key == at then Some x else None) ≡ None
      unlike key at x is = by (key == at) refl where
        same : (key == at) ≡ true → key ≡ at
        same is = grind (arith, common_steps, is)

        by : (here : Bool) → (key == at) ≡ here → (if here then Some x else None) ≡ None
        by true here =
            let one = ap (λ k. hits k at) (same here) in
            absurd (omega (arith, is, one, hits_same at))
        by false here = refl

      untold : (at : ℕ) (row : Row) → meanings_told row at ≡ 0 → meaning_row at row ≡ None
      untold at (Typed key ty) is = refl
      untold at (Means key meaning) is = unlike key at meaning is
      untold at (Ill key code unless) is = refl

unmeant : (world : World) (decls : List Decl) → AreKeyed decls → (key : ℕ) (found : List ℕ)
    → in_all meanings_told (said world decls) key + count found key
    ≤ in_all hits (keys_of decls) key → Contains found key
    → (answers_in (said world decls)).meaning_at key ≡ None
unmeant world decls keyed key found counted has =
    no_meaning_answered (said world decls) key
    (omega (arith, counted, key_counts found key has, distinct_once (keys_of decls) keyed key))

-- Nothing is said of the words that name enums in a body,
pub body_unmeant : (world : World) (decls : List Decl) → AreKeyed decls → (body : BodyOf)
    → Contains (bodies_from world 0 decls) body
    → words.AreUnmeant (answers_in (said world decls))
    (body_words world body)
body_unmeant world decls keyed body has =
    λ k d below.
    unmeant world decls keyed _ _
    (body_counts meanings_told meanings_count world (meanings_of decls) decls body _ has)
    (All-contains_itself (body_words world body) k d below)

-- nor of those in a first value.
pub value_unmeant : (world : World) (decls : List Decl) → AreKeyed decls → (value : ValueOf)
    → Contains (values_from world 0 decls) value
    → words.AreUnmeant (answers_in (said world decls))
    (value_words world value)
value_unmeant world decls keyed value has =
    λ k d below.
    unmeant world decls keyed _ _
    (value_counts meanings_told meanings_count world (meanings_of decls) decls value _ has)
    (All-contains_itself (value_words world value) k d below)
