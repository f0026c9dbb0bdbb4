-- What stands in each nest, and whole programs: they weigh no more than their tokens.
use Rattle.std.proofs.Common.{ℕ, ◌≤◌, IsTrue, List, ap, refl, arith}
use Rattle.std.proofs.lemmas.List.Elements.{recursion_from_All}
use Rattle.sw_token.specs.Spelling.{Spelled, IsSpelling}
use Rattle.sw_grammar_forms.proofs.Rising.{HasTokenText}
use Rattle.sw_grammar_forms.specs.Relations.{Relation}
use Rattle.sw_grammar_forms.specs.Spells.{inside}
use Rattle.sw_tree.proofs.Counting.{Weight, in_all, in_all-append, in_all-map}
use Rattle.sw_tree.specs.declared.decl.Decl.{Decl}
use Rattle.sw_grammar.specs.Around.{around_in, outermost}
use Rattle.sw_grammar.specs.Enums.{Marked, enum_of, enums, optionals}
use Rattle.sw_grammar.specs.Grammar.{body}
use Rattle.sw_grammar.specs.Nests.{Nest, El, shape_of}
use Rattle.sw_grammar.specs.Nests.Nest.{in_types, in_payload, in_result, in_task_type, in_round}
use Rattle.sw_grammar.specs.Nests.Nest.{in_args, in_member, in_empty, in_captures}
use Rattle.sw_grammar.specs.Nests.Nest.{in_closure_params, in_closure, in_task, in_block, in_switch}
use Rattle.sw_grammar.specs.Nests.Nest.{in_if_let, in_patterns, in_params, in_isolation, in_entry}
use Rattle.sw_grammar.specs.Nests.Nest.{in_global_actor, in_struct, in_enum, in_class}
use Rattle.sw_grammar.specs.Program.{Spells, SpellsDecls}
use Rattle.sw_grammar_facts.proofs.ClosureRules.{own_captured_words, own_closure_params}
use Rattle.sw_grammar_facts.proofs.DeclRules.{own_params_inside, own_isolation_inside}
use Rattle.sw_grammar_facts.proofs.DeclRules.{own_entry_inside, own_global_actor_inside}
use Rattle.sw_grammar_facts.proofs.DeclRules.{own_struct_inside, own_enum_inside, own_class_inside}
use Rattle.sw_grammar_facts.proofs.DeclRules.{own_program}
use Rattle.sw_grammar_facts.proofs.ExprRules.{own_round, own_args, own_member, own_nothing_inside}
use Rattle.sw_grammar_facts.proofs.NestWeights.{weight}
use Rattle.sw_grammar_facts.proofs.Owning.{none, Owns, own_inside}
use Rattle.sw_grammar_facts.proofs.Questions.{besides, in_all-less, optionals_weigh}
use Rattle.sw_grammar_facts.proofs.BlockRules.{own_closure_inside, own_task_inside, own_statements}
use Rattle.sw_grammar_facts.proofs.BlockRules.{own_if_let_inside, own_switch_inside}
use Rattle.sw_grammar_facts.proofs.BlockRules.{own_patterns_inside}
use Rattle.sw_grammar_facts.proofs.TypeRules.{Keeps, own_types, own_payload, own_type}
use Rattle.sw_grammar_facts.proofs.TypeRules.{own_task_inner}
use Rattle.sw_grammar_facts.proofs.Unmarked.{fits}
use Rattle.sw_grammar_facts.proofs.Weighing.{Weighing}

module _ {id_of : List ℕ → ℕ} (w : Weighing id_of) where
  own_body : (table : (n : Nest) → Relation (El n))
      → ((n : Nest) → IsTrue (fits n) → Owns w.tally none (table n) (weight w n))
      → (n : Nest) → IsTrue (fits n) → Keeps w table (body id_of n) none (weight w n)
  own_body table nests in_types fit = own_types (outermost id_of) w table nests
  own_body table nests in_payload fit = own_payload (outermost id_of) w table nests
  own_body table nests in_result fit = own_type (outermost id_of) w table nests
  own_body table nests in_task_type fit = own_task_inner (outermost id_of) w table nests
  own_body table nests (in_round here) fit =
      own_round (around_in id_of here) w table nests fit
  own_body table nests (in_args here) fit =
      own_args (around_in id_of here) w table nests fit
  own_body table nests (in_member here) fit =
      own_member (around_in id_of here) w table nests fit
  own_body table nests in_empty fit =
      own_nothing_inside (outermost id_of) w table nests refl
  own_body table nests in_captures fit =
      own_captured_words (outermost id_of) w table nests
  own_body table nests (in_closure_params here) fit =
      own_closure_params (around_in id_of here) w table nests
  own_body table nests (in_closure here) fit =
      own_closure_inside (around_in id_of here) w table nests fit
  own_body table nests (in_task here) fit =
      own_task_inside (around_in id_of here) w table nests fit
  own_body table nests (in_block here) fit =
      own_statements (around_in id_of here) w table nests fit
  own_body table nests (in_switch here) fit =
      own_switch_inside (around_in id_of here) w table nests fit
  own_body table nests (in_if_let here) fit =
      own_if_let_inside (around_in id_of here) w table nests fit
  own_body table nests (in_patterns here) fit =
      own_patterns_inside (around_in id_of here) w table nests fit
  own_body table nests in_params fit =
      own_params_inside (outermost id_of) w table nests refl
  own_body table nests in_isolation fit =
      own_isolation_inside (outermost id_of) w table nests refl
  own_body table nests in_entry fit =
      own_entry_inside (outermost id_of) w table nests refl
  own_body table nests in_global_actor fit =
      own_global_actor_inside (outermost id_of) w table nests refl
  own_body table nests in_struct fit =
      own_struct_inside (outermost id_of) w table nests refl
  own_body table nests in_enum fit =
      own_enum_inside (outermost id_of) w table nests refl
  own_body table nests in_class fit =
      own_class_inside (outermost id_of) w table nests refl

  -- declarations weigh no more than the tokens that spell them
  pub owned_decls : (decls : List Decl) (tokens : List Spelled) → IsSpelling tokens
      → IsTrue (w.tally.known tokens) → SpellsDecls id_of decls tokens
      → (k : ℕ) → in_all w.decl decls k ≤ in_all w.tally.of_token tokens k
  owned_decls decls tokens is known spelled k =
      let nests = own_inside w.tally El shape_of (body id_of) (λ n. IsTrue (fits n)) (weight w)
      own_body spelled.0 in
      let it = own_program (outermost id_of) w
      (inside El shape_of (body id_of) spelled.0) nests refl in
      let less = it.owns 0 decls tokens (record {
        texts = recursion_from_All HasTokenText tokens is.texts;
        apart = is.apart;
        known = known;
      }) spelled.1 k in omega arith

  -- and a program no more than all its tokens, where each enum weighs no more than its `?`
  pub owned : (pay : Spelled → Weight)
      → ((token : Spelled) (k : ℕ) → w.tally.of_token token k ≤ besides pay token k)
      → ((one : Marked) (k : ℕ) → w.decl (enum_of id_of one) k ≤ pay one.mark k)
      → (decls : List Decl) (tokens : List Spelled) → IsTrue (w.tally.known tokens)
      → Spells id_of decls tokens
      → (k : ℕ) → in_all w.decl decls k ≤ in_all pay tokens k
  owned pay paid enum decls tokens known given k =
      let form = given.form in
      let whole = ap (λ all. in_all w.decl all k) form.whole in
      omega (
        arith,
        whole,
        in_all-append w.decl form.written (enums id_of tokens) k,
        in_all-map w.decl (enum_of id_of) (optionals tokens) k,
        owned_decls form.written tokens given.spelling known form.spelled k,
        in_all-less w.tally.of_token (besides pay) paid tokens k,
        optionals_weigh pay (λ one. w.decl (enum_of id_of one)) enum tokens k,
      )
