-- The word whose optional a type is has no `?`, wherever the type is written as a result or as that
-- of a variable.
use Rattle.std.proofs.Common.{◌≡◌, ℕ, ◌+◌, Bool, true, false, IsTrue, Option, List, codes, refl}
use Rattle.std.proofs.Common.{⊎_elim, sym, subst}
use Rattle.std.specs.List.{AllByRecursion}
use Rattle.sw_token.specs.Spelling.{Spelled}
use Rattle.sw_grammar_forms.proofs.Rising.{HasTokenText, texts_prefix, texts_rest}
use Rattle.sw_grammar_forms.proofs.SetLemmas.{has-within}
use Rattle.sw_grammar_forms.specs.Form.{Shape, Terminal}
use Rattle.sw_grammar_forms.specs.Relations.{Relation, NoToken, One, FollowedBy, Either, spelled}
use Rattle.sw_grammar_forms.specs.Sets.{Set, has, quoted, within, word}
use Rattle.sw_grammar.specs.Around.{Around}
use Rattle.sw_grammar.specs.Closures.{Header, Signature, header, result_if, signature, signature_if}
use Rattle.sw_grammar.specs.Closures.{task_header, task_signature, task_signature_if}
use Rattle.sw_grammar.specs.Decls.{sent_result}
use Rattle.sw_grammar.specs.Nests.{Nest, El, Form, shape_of}
use Rattle.sw_grammar.specs.Stmts.{type_if}
use Rattle.sw_grammar.specs.Tokens.{value_word}
use Rattle.sw_grammar.specs.Types.{Typed, TypeWord, named, named_type, task_type, type_word, wanted_of}
use Rattle.sw_grammar.specs.Types.{written_type}
use Rattle.sw_tree.proofs.Counting.{Weight}
use Rattle.sw_grammar_facts.proofs.Owning.{Owns, OwnsAt, Part, Tally, none, own_anywhere, own_at}
use Rattle.sw_grammar_facts.proofs.Owning.{own_part}
use Rattle.sw_grammar_facts.proofs.Unmarked.{is_unmarked, wants_word}
use Rattle.sw_grammar_facts.proofs.WordTexts.{word_unmarked}

-- what holds of each value of a relation
pub record Gives {A : Type 0} (P : Relation A) (G : A → Type 0) : Type 0 where
  pub gives : (a : A) (tokens : List Spelled) → AllByRecursion HasTokenText tokens → P a tokens → G a

module _ {A : Type 0} where
  give_done : {G : A → Type 0} {a : A} → G a → Gives (NoToken a) G
  give_done {G} holds = record { gives = λ b tokens texts given. subst G (sym given.0) holds }

  give_token : (t : Terminal A) {G : A → Type 0}
      → ((token : Spelled) → HasTokenText token → IsTrue (has t.set token) → G (t.value token))
      → Gives (One t) G
  give_token t {G} each = record {
    gives = λ a tokens texts one.
        let alone = subst (AllByRecursion HasTokenText) one.alone texts in
        subst G (sym one.value) (each one.token alone.0 one.member);
  }

  give_either : {P Q : Relation A} {G : A → Type 0} → Gives P G → Gives Q G → Gives (Either P Q) G
  give_either first second = record {
    gives = λ a tokens texts one. ⊎_elim (λ p. first.gives a tokens texts p)
        (λ q. second.gives a tokens texts q) one;
  }

  give_then : {B : Type 0} {P : Relation A} {Q : A → Relation B} {G : A → Type 0} {H : B → Type 0}
      → Gives P G → ((a : A) → G a → Gives (Q a) H) → Gives (FollowedBy P Q) H
  give_then first second = record {
    gives = λ b tokens texts both.
        let halves = subst (AllByRecursion HasTokenText) both.whole texts in
        let known = first.gives both.value both.left (texts_prefix both.left both.right halves)
        both.first in
        (second both.value known).gives b both.right (texts_rest both.left both.right halves)
        both.second;
  }

  give_past : {B : Type 0} {P : Relation A} {Q : A → Relation B} {H : B → Type 0}
      → ((a : A) → Gives (Q a) H) → Gives (FollowedBy P Q) H
  give_past second = record {
    gives = λ b tokens texts both.
        (second both.value).gives b both.right (texts_rest both.left both.right
        (subst (AllByRecursion HasTokenText) both.whole texts)) both.second;
  }

abbrev WantsWord : Typed → Type 0
WantsWord written = IsTrue (wants_word written.wanted)

abbrev pub WantsWordIf : Option Typed → Type 0
WantsWordIf written = IsTrue (wants_word (wanted_of written))

module _ (around : Around) (table : (n : Nest) → Relation (El n)) where
  abbrev pub Wants : {s : Shape} {A : Type 0} → Form s A → (A → Type 0) → Type 0
  Wants form G = Gives (spelled El shape_of table form) G

  want_named : (found : TypeWord) (marked : Bool) → IsTrue (is_unmarked found.text)
      → WantsWord (named found marked)
  want_named found true unmarked = unmarked
  want_named found false unmarked = refl

  want_type_word : (set : Set) (text : List ℕ) → within set word ≡ true
      → Gives (One (type_word around set text)) (λ found. IsTrue (is_unmarked found.text))
  want_type_word set text less =
      give_token (type_word around set text)
      (λ token whole member. word_unmarked token whole (has-within set word token less member))

  want_task_type : Wants (task_type around) WantsWord
  unfolding task_type
  want_task_type =
      give_then (want_type_word (quoted (codes "Task")) (codes "Task") refl) (λ found unmarked.
      give_either (give_past (λ inner. give_done refl))
      (give_past (λ marked. give_done (want_named found marked unmarked))))

  want_named_type : Wants (named_type around) WantsWord
  unfolding named_type
  want_named_type =
      give_then (want_type_word value_word (codes "print") refl) (λ found unmarked.
      give_past (λ marked. give_done (want_named found marked unmarked)))

  pub want_written_type : Wants (written_type around) WantsWord
  unfolding written_type
  want_written_type =
      give_either (give_past (λ tree. give_done refl))
      (give_either (give_past (λ tree. give_done refl))
      (give_either want_task_type want_named_type))

  pub want_type_if : Wants (type_if around) WantsWordIf
  unfolding type_if
  want_type_if =
      give_either (give_past (λ _. give_then want_written_type (λ written wants. give_done wants)))
      (give_done refl)

  pub want_sent_result : Wants (sent_result around) (λ sent. WantsWordIf sent.1)
  unfolding sent_result
  want_sent_result =
      give_either (give_past (λ _. give_past (λ sends.
      give_then want_written_type (λ written wants. give_done wants)))) (give_done refl)

  want_result_if : Wants (result_if around) WantsWordIf
  unfolding result_if
  want_result_if =
      give_either (give_past (λ _. give_then want_written_type (λ written wants. give_done wants)))
      (give_done refl)

  abbrev SignedWord : Signature → Type 0
  SignedWord signature = WantsWordIf signature.1

  want_signature : Wants (signature around) SignedWord
  unfolding signature
  want_signature =
      give_past (λ params. give_then want_result_if (λ result wants. give_done wants))

  want_signature_if : Wants (signature_if around) SignedWord
  unfolding signature_if
  want_signature_if = give_either want_signature (give_done refl)

  abbrev pub HeadedWord : Header → Type 0
  HeadedWord head = WantsWordIf head.result

  pub want_header : Wants (header around) HeadedWord
  unfolding header
  want_header =
      give_either (give_past (λ mark. give_past (λ words.
      give_then want_signature_if (λ written wants. give_past (λ _. give_done wants)))))
      (give_either (give_past (λ words.
      give_then want_signature_if (λ written wants. give_past (λ _. give_done wants))))
      (give_either (give_then want_signature (λ written wants. give_past (λ _. give_done wants)))
      (give_done refl)))

  want_task_signature : Wants (task_signature around) SignedWord
  unfolding task_signature
  want_task_signature =
      give_past (λ _. give_past (λ _.
      give_then want_result_if (λ result wants. give_done wants)))

  want_task_signature_if : Wants (task_signature_if around) SignedWord
  unfolding task_signature_if
  want_task_signature_if = give_either want_task_signature (give_done refl)

  pub want_task_header : Wants (task_header around) HeadedWord
  unfolding task_header
  want_task_header =
      give_either (give_past (λ mark. give_past (λ words.
      give_then want_task_signature_if (λ written wants. give_past (λ _. give_done wants)))))
      (give_either (give_past (λ words.
      give_then want_task_signature_if (λ written wants. give_past (λ _. give_done wants))))
      (give_either (give_then want_task_signature (λ written wants.
      give_past (λ _. give_done wants))) (give_done refl)))

-- A value that is read first, of which something is known, and what comes after it.
module _ (tally : Tally) {A B : Type 0} {base : Weight} {P : Relation A} {Q : A → Relation B}
    {w : B → Weight} (u : A → Weight) {G : A → Type 0} (known : Gives P G)
    (first : Owns tally none P u) where
  pub own_part_knowing : {from : ℕ}
      → ((a : A) → G a → (to : ℕ) → Part tally from to (u a)
      → OwnsAt tally to (λ k. base k + u a k) (Q a) w)
      → OwnsAt tally from base (FollowedBy P Q) w
  own_part_knowing second = record {
    owns_at = λ b tokens stands both.
        let halves = subst (AllByRecursion HasTokenText) both.whole stands.texts in
        let holds = known.gives both.value both.left (texts_prefix both.left both.right halves)
        both.first in
        (own_part tally {Q = λ a c ts. G a × Q a c ts} u first (λ a to part. record {
          owns_at = λ c ts standing given.
              (second a given.0 to part).owns_at c ts standing given.1;
        })).owns_at b tokens stands (record {
          value = both.value;
          left = both.left;
          right = both.right;
          first = both.first;
          second = (holds, both.second);
          whole = both.whole;
        });
  }

  pub own_then_knowing : ((a : A) → G a → Owns tally (λ k. base k + u a k) (Q a) w)
      → Owns tally base (FollowedBy P Q) w
  own_then_knowing second =
      own_anywhere tally (λ from. own_part_knowing (λ a holds to part.
      own_at tally to (second a holds)))
