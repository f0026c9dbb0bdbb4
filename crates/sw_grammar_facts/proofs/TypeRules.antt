-- What types weigh, and lists that commas part.
use Rattle.std.proofs.Common.{◌≡◌, ℕ, ◌+◌, ◌≤◌, Bool, true, nat_le, nat_lt, All, List, [], ◌∷◌, length, get_or}
use Rattle.std.proofs.Common.{bytes_eq, codes, false, None, Some, refl, sym, subst, arith}
use Rattle.std.proofs.lemmas.Bool.{ltb-true}
use Rattle.std.proofs.lemmas.List.Elements.{All-get_or}
use Rattle.std.proofs.lemmas.List.Sums.{AllPass-from_list_all, passes_at_first}
use Rattle.std.proofs.lemmas.Slice.Eq.{bytes_eq-Decides}
use Rattle.std.specs.List.{list_all, position_or_len}
use Rattle.std.specs.Prelude.{IsTrue, max}
use Rattle.sw_token.specs.Spelling.{Spelled}
use Rattle.sw_grammar_forms.specs.Sets.{Set, has, word, attribute, within, quoted, quoted_texts}
use Rattle.sw_grammar_forms.specs.Sets.{not_first}
use Rattle.sw_grammar_forms.specs.Sets.{is_quoted}
use Rattle.sw_grammar_forms.specs.Form.{Shape, a_word}
use Rattle.sw_grammar_forms.specs.Form.Form.{nest}
use Rattle.sw_grammar_forms.specs.Relations.{Relation, One, is_none_of, spelled}
use Rattle.sw_grammar_forms.specs.Quotes.{quote, quote_on_line}
use Rattle.sw_grammar_forms.proofs.CursorSteps.{seen_text}
use Rattle.sw_grammar_forms.proofs.SetLemmas.{has-within}
use Rattle.sw_tree.proofs.Counting.{Weight, in_all, in_option, in_all-append}
use Rattle.sw_grammar_facts.proofs.Owning.{none, Owns, own_done, own_text, own_token, own_then}
use Rattle.sw_grammar_facts.proofs.Owning.{own_either, own_only, own_past, own_turns, own_nest}
use Rattle.sw_grammar_facts.proofs.Owning.{own_from, own_passing, own_unless}
use Rattle.sw_grammar.specs.Around.{Around}
use Rattle.sw_grammar.specs.Nests.{Nest, El, shape_of, Form}
use Rattle.sw_grammar.specs.Nests.Nest.{in_types, in_result, in_task_type}
use Rattle.sw_grammar.specs.Tokens.{name_of, name_in, at_in, value_word, infix_in, a_prefix}
use Rattle.sw_grammar.specs.Types.{TypeWord, is_empty, named, type_word, round_type, marked_type}
use Rattle.sw_grammar.specs.Types.{task_type, named_type, written_type, type, more_of, some_of}
use Rattle.sw_grammar.specs.Types.{list_of, types, payload, task_inner}
use Rattle.sw_grammar.specs.Words.{declared_as, new_name, new_word}
use Rattle.sw_grammar_facts.proofs.NestWeights.{weight, of_typed}
use Rattle.sw_grammar_facts.proofs.Questions.{is_paid, other_of}
use Rattle.sw_grammar_facts.proofs.Spread.{spread}
use Rattle.sw_grammar_facts.proofs.Unmarked.{fits}
use Rattle.sw_grammar_facts.proofs.Weighing.{Weighing}

-- A text among short ones is short, and so each quoted text is.
abbrev is_short : List ℕ → Bool
is_short text = nat_le (length text) 16

short_among : (texts : List (List ℕ)) (text : List ℕ) → list_all is_short texts ≡ true
    → nat_lt (position_or_len (λ other. bytes_eq other text) texts) (length texts) ≡ true
    → length text ≤ 16
short_among texts text short is =
    let place = position_or_len (λ other. bytes_eq other text) texts in
    let below = ltb-true place (length texts) is in
    let first : bytes_eq (get_or texts place []) text ≡ true
    = passes_at_first (λ other. bytes_eq other text) texts [] below in
    let all : All (λ other. is_short other ≡ true) texts = AllPass-from_list_all is_short texts short in
    let here : is_short text ≡ true
    = subst (λ other. is_short other ≡ true)
    ((bytes_eq-Decides (get_or texts place []) text).0 first)
    (All-get_or (λ other. is_short other ≡ true) texts place [] below all) in
    grind (arith, here)

quoted_short : (text : List ℕ) → is_quoted text ≡ true → length text ≤ 16
quoted_short text is = short_among quoted_texts text refl is

module _ {id_of : List ℕ → ℕ} (w : Weighing id_of) (table : (n : Nest) → Relation (El n)) where
  -- a form's values weigh no more than what is left over and its tokens
  abbrev pub Keeps : {s : Shape} {A : Type 0} → Form s A → Weight → (A → Weight) → Type 0
  Keeps form base weigh = Owns w.tally base (spelled El shape_of table form) weigh

  -- Tokens. None of them is a `?`.
  pub own_quote : (text : List ℕ) → is_paid (quoted text) ≡ true
      → Owns w.tally none (One (quote text)) w.place
  own_quote text paid =
      own_token _ (quote text) (λ token member k.
      w.of_place token (other_of (quoted text) token paid member) k)

  -- a quoted text with all its places
  pub whole_weighs : (text : List ℕ) → is_quoted text ≡ true → is_paid (quoted text) ≡ true
      → (token : Spelled) → IsTrue (has (quoted text) token) → (k : ℕ)
      → spread w.place (length text) token.at k ≤ w.tally.of_token token k
  whole_weighs text is paid token member k =
      let same = seen_text text (Some token) is member in
      subst (λ chars. spread w.place (length chars) token.at k ≤ w.tally.of_token token k) same
      (w.of_span token (other_of (quoted text) token paid member)
      (subst (λ chars. length chars ≤ 16) (sym same) (quoted_short text is)) k)

  pub own_whole : (text : List ℕ) → is_quoted text ≡ true → is_paid (quoted text) ≡ true
      → Owns w.tally none (One (quote text)) (spread w.place (length text))
  own_whole text is paid = own_token _ (quote text) (whole_weighs text is paid)

  pub own_infix : (set : Set) (text : List ℕ) → is_paid set ≡ true
      → Owns w.tally none (One (infix_in set text)) (λ op. w.place op.1)
  own_infix set text paid =
      own_token _ (infix_in set text)
      (λ token member k. w.of_place token (other_of set token paid member) k)

  pub own_prefix : Owns w.tally none (One a_prefix) (λ op. w.place op.1)
  own_prefix =
      own_token _ a_prefix
      (λ token member k. w.of_place token (other_of a_prefix.set token refl member) k)

  -- Nests.
  module _ (nests : (n : Nest) → IsTrue (fits n) → Owns w.tally none (table n) (weight w n)) where
    pub own_opened : (text : List ℕ) → is_paid (quoted text) ≡ true → (n : Nest)
        → IsTrue (fits n)
        → Keeps (nest (quote text) n) none (λ both k. w.place both.0 k + weight w n both.1 k)
    own_opened text paid n fit =
        own_nest _ w.place (weight w n) (own_quote text paid) (nests n fit) (λ a b k. omega arith)

    pub own_opened_on_line : (text : List ℕ) → is_paid (not_first (quoted text)) ≡ true → (n : Nest)
        → IsTrue (fits n)
        → Keeps (nest (quote_on_line text) n) none
        (λ both k. w.place both.0 k + weight w n both.1 k)
    own_opened_on_line text paid n fit =
        own_nest _ w.place (weight w n)
        (own_token _ (quote_on_line text) (λ token member k.
        w.of_place token (other_of (not_first (quoted text)) token paid member) k)) (nests n fit)
        (λ a b k. omega arith)

module _ (around : Around) (w : Weighing around.id_of) (table : (n : Nest) → Relation (El n)) where
  -- Lists.
  module _ {A : Type 0} {s : Shape} (item : Form s A) (u : A → Weight) (each : Keeps w table item none u)
    where
      pub own_more_of : (first : List A)
          → Keeps w table (more_of around first item) (in_all u first) (in_all u)
      unfolding in_all
      own_more_of first =
          own_turns _ (λ xs. own_only _ true (λ _. own_past _ (λ _. own_then _ u each (λ x.
          own_done _ (λ k. omega (arith, in_all-append u xs (x ∷ []) k)))))) first

      pub own_some_of : (text : List ℕ) → Keeps w table (some_of around text item) none (in_all u)
      unfolding in_all
      own_some_of text =
          own_then _ u each (λ x. own_from _ none (in_all u) (λ k. omega arith)
          (own_more_of (x ∷ [])) (λ xs. own_past _ (λ _. own_done _ (λ k. omega arith))))

      pub own_list_of : (text : List ℕ) → Keeps w table (list_of around text item) none (in_all u)
      unfolding in_all
      own_list_of text =
          own_either _ (own_past _ (λ _. own_done _ (λ k. omega arith))) (own_some_of text)

  -- Names.
  pub own_name : (set : Set) (text : List ℕ) → within set word ≡ true
      → Owns w.tally none (One (name_in around set text))
      (λ name k. w.node name k + w.label name k)
  own_name set text less =
      own_text _ (name_in around set text)
      (λ token whole member k. let is = has-within set word token less member in
      w.of_word token (other_of word token refl is) whole is k)

  pub own_new_name : Keeps w table (new_name around) none (λ name k. w.node name k + w.label name k)
  own_new_name =
      own_passing _ (is_none_of around.here.tasks) (own_name word (codes "print") refl)

  pub own_new_word : Keeps w table (new_word around) none (λ found. w.node found.name)
  own_new_word =
      own_passing _ (is_none_of around.here.tasks) (own_text _ (a_word (declared_as around))
      (λ token whole member k.
      omega (arith, w.of_word token (other_of word token refl member) whole member k)))

  pub own_mark : (set : Set) (text : List ℕ) → within set attribute ≡ true
      → Owns w.tally none (One (at_in around set text)) w.label
  own_mark set text less =
      own_token _ (at_in around set text)
      (λ token member k. let is = has-within set attribute token less member in
      w.of_mark token (other_of attribute token refl is) is k)

  -- a word of a type, as it is or with a `?`
  abbrev either_named : TypeWord → Weight
  either_named found k = max (w.type (named found true).tree k) (w.type (named found false).tree k)

  named_weighs : (found : TypeWord) (marked : Bool) (k : ℕ)
      → w.type (named found marked).tree k ≤ either_named found k
  named_weighs found true k = omega arith
  named_weighs found false k = omega arith

  own_type_word : (set : Set) (text : List ℕ) → within set word ≡ true
      → Owns w.tally none (One (type_word around set text)) either_named
  own_type_word set text less =
      own_text _ (type_word around set text) (λ token whole member k.
      let is = has-within set word token less member in
      let name = name_of around.id_of token in
      omega (
        arith,
        w.of_word token (other_of word token refl is) whole is k,
        w.type-Named name k,
        w.of_optional_type name token.text k,
      ))

  -- Types.
  module _ (nests : (n : Nest) → IsTrue (fits n) → Owns w.tally none (table n) (weight w n)) where
    own_round_type : Keeps w table (round_type around) none w.type
    unfolding round_type in_option
    own_round_type =
        own_then _ _ (own_opened w table nests (codes "(") refl in_types refl) (λ params.
        own_unless _ (is_empty params.1)
        (own_then _ _ (own_opened w table nests (codes "->") refl in_result refl) (λ result. own_done _ (λ k.
        omega (arith, w.type-Arrow params.0 None params.1 result.1 k))))
        (λ _. own_done _ (λ k. omega (arith, w.type-Unit params.0 k))))

    own_marked_type : Keeps w table (marked_type around) none w.type
    unfolding marked_type in_option
    own_marked_type =
        own_then _ _ (own_mark (quoted (codes "@Sendable")) (codes "@Sendable") refl) (λ mark.
        own_then _ _ (own_opened w table nests (codes "(") refl in_types refl) (λ params.
        own_then _ _ (own_opened w table nests (codes "->") refl in_result refl) (λ result. own_done _ (λ k.
        omega (arith, w.type-Arrow params.0 (Some mark) params.1 result.1 k)))))

    own_task_type : Keeps w table (task_type around) none (of_typed w)
    unfolding task_type
    own_task_type =
        own_then _ _ (own_type_word (quoted (codes "Task")) (codes "Task") refl) (λ word.
        own_either _
        (own_then _ _ (own_opened w table nests (codes "<") refl in_task_type refl) (λ inner. own_done _ (λ k.
        omega (arith, w.type-TaskOf word.name.at inner.1 k))))
        (own_past _ (λ marked. own_done _ (λ k. omega (arith, named_weighs word marked k)))))

    own_named_type : Keeps w table (named_type around) none (of_typed w)
    unfolding named_type
    own_named_type =
        own_then _ _ (own_type_word value_word (codes "print") refl) (λ word.
        own_past _ (λ marked. own_done _ (λ k. omega (arith, named_weighs word marked k))))

    pub own_written_type : Keeps w table (written_type around) none (of_typed w)
    unfolding written_type
    own_written_type =
        own_either _ (own_then _ _ own_marked_type (λ tree. own_done _ (λ k. omega arith)))
        (own_either _ (own_then _ _ own_round_type (λ tree. own_done _ (λ k. omega arith)))
        (own_either _ own_task_type own_named_type))

    pub own_type : Keeps w table (type around) none w.type
    unfolding type
    own_type =
        own_then _ _ own_written_type (λ written. own_done _ (λ k. omega arith))

    pub own_types : Keeps w table (types around) none (in_all w.type)
    unfolding types
    own_types = own_list_of (type around) w.type own_type (codes ")")

    pub own_payload : Keeps w table (payload around) none (in_all w.type)
    unfolding payload
    own_payload = own_some_of (type around) w.type own_type (codes ")")

    pub own_task_inner : Keeps w table (task_inner around) none w.type
    unfolding task_inner
    own_task_inner =
        own_then _ _ own_type (λ inner. own_past _ (λ _. own_past _ (λ _. own_past _ (λ _.
        own_done _ (λ k. omega arith)))))
