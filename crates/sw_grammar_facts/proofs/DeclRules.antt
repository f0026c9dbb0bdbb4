-- What declarations weigh.
use Rattle.std.proofs.Common.{ℕ, ◌+◌, ◌≤◌, Bool, true, false, List, [], ◌∷◌, None, Some}
use Rattle.std.proofs.Common.{Option, IsTrue, codes, refl, arith}
use Rattle.sw_grammar_forms.specs.Form.Form.{either}
use Rattle.sw_grammar_forms.specs.Quotes.{quote}
use Rattle.sw_grammar_forms.specs.Relations.{Relation, One}
use Rattle.sw_grammar_forms.specs.Sets.{quoted, word}
use Rattle.sw_tree.proofs.Counting.{in_all, in_option, in_all-append}
use Rattle.sw_tree.specs.declared.name.Name.{Name}
use Rattle.sw_tree.specs.declared.decl.PropTree.{PropTree}
use Rattle.sw_tree.specs.declared.decl.Written.{Written}
use Rattle.sw_tree.specs.declared.decl.Written.TheVariants as writtens
use Rattle.sw_grammar_facts.proofs.Owning.{none, Owns, own_done, own_token, own_then, own_either}
use Rattle.sw_grammar_facts.proofs.Owning.{own_anywhere, own_at, own_from, own_part}
use Rattle.sw_grammar_facts.proofs.Owning.{own_past, own_past_at, own_with, in_turn, part_of_less}
use Rattle.sw_grammar_facts.proofs.Owning.{part_rises}
use Rattle.sw_grammar.specs.Around.{Around, returning}
use Rattle.sw_grammar.specs.Nests.{Nest, El, shape_of, Member}
use Rattle.sw_grammar.specs.Nests.Nest.{in_payload, in_params, in_entry, in_global_actor}
use Rattle.sw_grammar.specs.Nests.Nest.{in_struct, in_enum, in_class}
use Rattle.sw_grammar.specs.Nests.Member.{property, initialiser, function, cases}
use Rattle.sw_grammar.specs.Tokens.{at_word, plain_at_word}
use Rattle.sw_grammar.specs.Types.{tree_of, wanted_of}
use Rattle.sw_grammar.specs.Decls.{properties_in, initialisers_in, functions_in, cases_in}
use Rattle.sw_grammar.specs.Decls.{property_of, declared, isolation_inside, nonisolated, concurrent}
use Rattle.sw_grammar.specs.Decls.{param_type, param, params_inside, params, sent_result}
use Rattle.sw_grammar.specs.Decls.{func_after, method, method_member, value_if, field_after, field}
use Rattle.sw_grammar.specs.Decls.{prop_after, prop, init, enum_case, enum_cases, struct_inside}
use Rattle.sw_grammar.specs.Decls.{enum_inside, class_inside, entry_inside, global_actor_inside}
use Rattle.sw_grammar.specs.Decls.{entry, global_actor, struct_decl, enum_decl, actor_decl}
use Rattle.sw_grammar.specs.Decls.{class_after, func_decl, global_value, global_after, annotated}
use Rattle.sw_grammar.specs.Decls.{decl, program}
use Rattle.sw_grammar_facts.proofs.Weighing.{Weighing}
use Rattle.sw_grammar_facts.proofs.Items.{own_items}
use Rattle.sw_grammar_facts.proofs.NestWeights.{weight, of_typed_if, member, entered}
use Rattle.sw_grammar_facts.proofs.Questions.{other_of}
use Rattle.sw_grammar_facts.proofs.TypeRules.{Keeps, own_list_of, own_more_of, own_quote, own_name}
use Rattle.sw_grammar_facts.proofs.TypeRules.{own_mark, own_opened, own_type, own_written_type}
use Rattle.sw_grammar_facts.proofs.StmtRules.{own_block, own_value, own_type_if}
use Rattle.sw_grammar_facts.proofs.Unmarked.{fits, wants_word}
use Rattle.sw_grammar_facts.proofs.ValueRules.{own_value_for}
use Rattle.sw_grammar_facts.proofs.Wanted.{own_part_knowing, own_then_knowing, want_sent_result}
use Rattle.sw_grammar_facts.proofs.Wanted.{want_type_if, want_written_type}

module _ {id_of : List ℕ → ℕ} (w : Weighing id_of) where
  -- the members of a type, by their kinds
  members_weigh : (members : List Member) (k : ℕ)
      → in_all w.prop (properties_in members) k + in_all w.init (initialisers_in members) k
      + in_all w.func (functions_in members) k + in_all w.case (cases_in members) k
      ≤ in_all (member w) members k
  unfolding in_all
  members_weigh [] k = omega arith
  members_weigh (property tree ∷ members) k = omega (arith, members_weigh members k)
  members_weigh (initialiser tree ∷ members) k = omega (arith, members_weigh members k)
  members_weigh (function tree ∷ members) k = omega (arith, members_weigh members k)
  members_weigh (cases trees ∷ members) k =
      omega (
        arith,
        members_weigh members k,
        in_all-append w.case trees (cases_in members) k,
      )

module _ (around : Around) (w : Weighing around.id_of) where
  module _ (table : (n : Nest) → Relation (El n))
      (nests : (n : Nest) → IsTrue (fits n) → Owns w.tally none (table n) (weight w n))
      (fit : IsTrue (wants_word around.here.wanted)) where
    -- a word that is declared may be a label too
    own_declared : Keeps w table (declared around) none (λ name k. w.node name k + w.label name k)
    unfolding declared
    own_declared =
        own_then _ _ (own_name around w table word (codes "print") refl) (λ name.
        own_done _ (λ k. omega arith))

    pub own_isolation_inside : Keeps w table (isolation_inside around) none (λ at. none)
    unfolding isolation_inside
    own_isolation_inside =
        own_past _ (λ _. own_past _ (λ _. own_done _ (λ k. omega arith)))

    own_nonisolated : Keeps w table (nonisolated around) none w.written
    unfolding nonisolated
    own_nonisolated =
        own_past _ (λ _. own_either _
        (own_past _ (λ _. own_done _ (λ k. omega (arith, w.written-Nonsending k))))
        (own_done _ (λ k. omega (arith, w.written-Nonisolated k))))

    own_concurrent : Keeps w table (concurrent around) none w.written
    unfolding concurrent
    own_concurrent =
        own_past _ (λ _. own_past _ (λ _. own_done _ (λ k. omega (arith, w.written-Concurrent k))))

    own_param_type : (label : Option Name) (name : Name)
        → Keeps w table (param_type around label name)
        (λ k. w.node name k + in_option w.label label k) w.param
    unfolding param_type
    own_param_type label name =
        own_past _ (λ _. own_past _ (λ sending. own_past _ (λ _.
        own_then _ _ (own_type around w table nests) (λ ty. own_done _ (λ k.
        omega (
          arith,
          w.param-is (record { label = label; name = name; sending = sending; ty = ty }) k,
        ))))))

    own_param : Keeps w table (param around) none w.param
    unfolding param in_option
    own_param =
        own_either _ (own_then _ _ own_declared (λ first. own_either _
        (own_then _ _ own_declared (λ name.
        own_with _ (λ k. omega arith) (own_param_type (Some first) name)))
        (own_with _ (λ k. omega arith) (own_param_type (Some first) first))))
        (own_past _ (λ _. own_then _ _ own_declared (λ name.
        own_with _ (λ k. omega arith) (own_param_type None name))))

    pub own_params_inside : Keeps w table (params_inside around) none (in_all w.param)
    unfolding params_inside
    own_params_inside = own_list_of around w table (param around) w.param own_param (codes ")")

    own_params : Keeps w table (params around) none (in_all w.param)
    unfolding params
    own_params =
        own_then _ _ (own_opened w table nests (codes "(") refl in_params refl) (λ given.
        own_done _ (λ k. omega arith))

    own_sent_result : Keeps w table (sent_result around) none (λ sent. of_typed_if w sent.1)
    unfolding sent_result in_option
    own_sent_result =
        own_either _ (own_past _ (λ _. own_past _ (λ _. own_then _ _ (own_written_type around w table nests)
        (λ ty. own_done _ (λ k. omega arith))))) (own_done _ (λ k. omega arith))

    own_func_after : (isolation : Written)
        → Keeps w table (func_after around isolation) (w.written isolation) w.func
    unfolding func_after
    own_func_after isolation =
        own_past _ (λ _. own_then _ _ own_declared (λ name. own_anywhere _ (λ from.
        own_part _ _ own_params (λ given middle before. own_past_at _ (λ is_async past less.
        own_part_knowing w.tally _ (want_sent_result around table) own_sent_result
        (λ result wants next read.
        own_part _ _
        (own_block (returning around (wanted_of result.1)) w table nests wants)
        (λ body to after. own_at _ to (own_done _ (λ k. omega (
          arith,
          w.func-is (record {
            written = isolation;
            word = name;
            params = given;
            is_async = is_async;
            sends = result.0;
            result = tree_of result.1;
            body = body;
          }) (in_turn _ before (let rises = part_rises _ read in omega arith) after) k,
        ))))))))))

    own_method : Keeps w table (method around) none w.func
    unfolding method
    own_method =
        own_either _ (own_then _ _ (own_mark around w table at_word (codes "@Sendable") refl) (λ mark.
        own_with _ (λ k. omega (arith, w.written-At mark k)) (own_func_after (writtens.At mark))))
        (own_either _ (own_then _ _ own_nonisolated (λ isolation.
        own_with _ (λ k. omega arith) (own_func_after isolation)))
        (own_either _ (own_then _ _ own_concurrent (λ isolation.
        own_with _ (λ k. omega arith) (own_func_after isolation)))
        (own_with _ (λ k. omega (arith, w.written-Absent k)) (own_func_after writtens.Absent))))

    own_method_member : Keeps w table (method_member around) none (member w)
    unfolding method_member
    own_method_member = own_then _ _ own_method (λ tree. own_done _ (λ k. omega arith))

    own_value_if : (wanted : Option (List ℕ)) → IsTrue (wants_word wanted)
        → Keeps w table (value_if around wanted) none (in_option w.expr)
    unfolding value_if in_option
    own_value_if wanted wants =
        own_either _ (own_then _ _ (own_value_for around w table nests fit wanted wants) (λ given.
        own_done _ (λ k. omega arith))) (own_done _ (λ k. omega arith))

    own_field_after : (mutable : Bool) → Keeps w table (field_after around mutable) none (member w)
    unfolding field_after in_option
    own_field_after mutable =
        own_then _ _ own_declared (λ name. own_past _ (λ _.
        own_then _ _ (own_type around w table nests) (λ ty. own_done _ (λ k.
        omega (
          arith,
          w.prop-is (property_of mutable name (Some ty) None) k,
          w.written-Absent k,
        )))))

    own_field : Keeps w table (field around) none (member w)
    unfolding field
    own_field =
        own_either _ (own_past _ (λ _. own_field_after false))
        (own_past _ (λ _. own_field_after true))

    own_prop_after : (mutable : Bool) → Keeps w table (prop_after around mutable) none (member w)
    unfolding prop_after in_option
    own_prop_after mutable =
        own_then _ _ own_declared (λ name. own_either _
        (own_past _ (λ _. own_then_knowing w.tally _ (want_written_type around table)
        (own_written_type around w table nests) (λ ty wants.
        own_then _ _ (own_value_if ty.wanted wants) (λ given. own_done _ (λ k.
        omega (
          arith,
          w.prop-is (property_of mutable name (Some ty.tree) given) k,
          w.written-Absent k,
        ))))))
        (own_then _ _ (own_value around w table nests fit) (λ given. own_done _ (λ k.
        omega (
          arith,
          w.prop-is (property_of mutable name None (Some given)) k,
          w.written-Absent k,
        )))))

    own_prop : Keeps w table (prop around) none (member w)
    unfolding prop
    own_prop =
        own_either _ (own_past _ (λ _. own_prop_after false))
        (own_past _ (λ _. own_prop_after true))

    own_init : Keeps w table (init around) none (member w)
    unfolding init
    own_init =
        own_then _ _ (own_quote w table (codes "init") refl) (λ at. own_anywhere _ (λ from.
        own_part _ _ own_params (λ given middle before.
        own_part _ _ (own_block around w table nests fit) (λ body to after.
        own_at _ to (own_done _ (λ k. omega (
          arith,
          w.init-is (record { at = at; params = given; body = body })
              (in_turn _ before (omega arith) after) k,
        )))))))

    own_enum_case : Keeps w table (enum_case around) none w.case
    unfolding enum_case in_all
    own_enum_case =
        own_then _ _ own_declared (λ name. own_either _
        (own_then _ _ (own_opened w table nests (codes "(") refl in_payload refl) (λ given. own_done _ (λ k.
        omega (arith, w.case-is (record { word = name; types = given.1 }) k))))
        (own_done _ (λ k. omega (arith, w.case-is (record { word = name; types = [] }) k))))

    own_enum_cases : Keeps w table (enum_cases around) none (member w)
    unfolding enum_cases in_all
    own_enum_cases =
        own_past _ (λ _. own_then _ _ own_enum_case (λ first.
        own_from _ none (in_all w.case) (λ k. omega arith)
        (own_more_of around w table (enum_case around) w.case own_enum_case (first ∷ [])) (λ all.
        own_done _ (λ k. omega arith))))

    pub own_struct_inside : Keeps w table (struct_inside around) none (in_all (member w))
    unfolding struct_inside
    own_struct_inside =
        own_then _ _ (own_items _ El shape_of table (either (field around) (method_member around))
        (member w) (own_either _ own_field own_method_member)) (λ read. own_past _ (λ _.
        own_done _ (λ k. omega arith)))

    pub own_enum_inside : Keeps w table (enum_inside around) none (in_all (member w))
    unfolding enum_inside
    own_enum_inside =
        own_then _ _ (own_items _ El shape_of table
        (either (enum_cases around) (method_member around)) (member w)
        (own_either _ own_enum_cases own_method_member)) (λ read. own_past _ (λ _.
        own_done _ (λ k. omega arith)))

    pub own_class_inside : Keeps w table (class_inside around) none (in_all (member w))
    unfolding class_inside
    own_class_inside =
        own_then _ _ (own_items _ El shape_of table
        (either (prop around) (either (init around) (method_member around))) (member w)
        (own_either _ own_prop (own_either _ own_init own_method_member))) (λ read.
        own_past _ (λ _. own_done _ (λ k. omega arith)))

    own_main : Owns w.tally none (One (quote (codes "main"))) w.entry
    own_main =
        own_token _ (quote (codes "main")) (λ token member k.
        w.of_entry token (other_of (quoted (codes "main")) token refl member) k)

    pub own_entry_inside : Keeps w table (entry_inside around) none (entered w)
    unfolding entry_inside
    own_entry_inside =
        own_then _ w.written (own_either _
        (own_then _ _ (own_mark around w table at_word (codes "@Sendable") refl) (λ mark.
        own_done _ (λ k. omega (arith, w.written-At mark k))))
        (own_either _ (own_past _ (λ _. own_done _ (λ k. omega (arith, w.written-Nonisolated k))))
        (own_done _ (λ k. omega (arith, w.written-Absent k))))) (λ isolation.
        own_past _ (λ _. own_past _ (λ _. own_then _ _ own_main (λ at.
        own_past _ (λ _. own_past _ (λ is_async. own_then _ _ (own_block around w table nests fit) (λ body.
        own_past _ (λ _. own_past _ (λ _. own_done _ (λ k. omega arith))))))))))

    pub own_global_actor_inside : Keeps w table (global_actor_inside around) none w.label
    unfolding global_actor_inside
    own_global_actor_inside =
        own_past _ (λ _. own_past _ (λ _. own_past _ (λ _. own_past _ (λ _.
        own_then _ _ own_declared (λ name. own_past _ (λ _. own_past _ (λ _. own_past _ (λ _.
        own_done _ (λ k. omega arith)))))))))

    own_entry : Keeps w table (entry around) none w.decl
    unfolding entry
    own_entry =
        own_past _ (λ _. own_then _ _ own_declared (λ name.
        own_then _ _ (own_opened w table nests (codes "{") refl in_entry refl) (λ main. own_done _ (λ k.
        omega (
          arith,
          w.decl-Entry name main.1.written main.1.at main.1.is_async main.1.body k,
        )))))

    own_global_actor : Keeps w table (global_actor around) none w.decl
    unfolding global_actor
    own_global_actor =
        own_past _ (λ _. own_then _ _ own_declared (λ name.
        own_then _ _ (own_opened w table nests (codes "{") refl in_global_actor refl) (λ made.
        own_done _ (λ k. omega (arith, w.decl-GlobalActor name made.1 k)))))

    own_struct_decl : Keeps w table (struct_decl around) none w.decl
    unfolding struct_decl
    own_struct_decl =
        own_past _ (λ _. own_anywhere _ (λ from. own_part _ _ own_declared (λ name middle before.
        own_past_at _ (λ sendable next less.
        own_part _ _ (own_opened w table nests (codes "{") refl in_struct refl) (λ all to after.
        own_at _ to (own_done _ (λ k. omega (
          arith,
          w.decl-Struct name sendable (properties_in all.1) (functions_in all.1)
              (in_turn _ (part_of_less _ (λ j. omega arith) before) less
              (part_of_less _ (λ j. omega (arith, members_weigh w all.1 j)) after)) k,
          members_weigh w all.1 k,
        ))))))))

    own_enum_decl : Keeps w table (enum_decl around) none w.decl
    unfolding enum_decl
    own_enum_decl =
        own_past _ (λ _. own_anywhere _ (λ from. own_part _ _ own_declared (λ name middle before.
        own_past_at _ (λ sendable next less.
        own_part _ _ (own_opened w table nests (codes "{") refl in_enum refl) (λ all to after.
        own_at _ to (own_done _ (λ k. omega (
          arith,
          w.decl-Enum name sendable (cases_in all.1) (functions_in all.1)
              (in_turn _ (part_of_less _ (λ j. omega arith) before) less
              (part_of_less _ (λ j. omega (arith, members_weigh w all.1 j)) after)) k,
          members_weigh w all.1 k,
        ))))))))

    own_actor_decl : Keeps w table (actor_decl around) none w.decl
    unfolding actor_decl
    own_actor_decl =
        own_past _ (λ _. own_anywhere _ (λ from. own_part _ _ own_declared (λ name middle before.
        own_part _ _ (own_opened w table nests (codes "{") refl in_class refl) (λ all to after.
        own_at _ to (own_done _ (λ k. omega (
          arith,
          w.decl-Actor name (properties_in all.1) (initialisers_in all.1) (functions_in all.1)
              (in_turn _ (part_of_less _ (λ j. omega arith) before) (omega arith)
              (part_of_less _ (λ j. omega (arith, members_weigh w all.1 j)) after)) k,
          members_weigh w all.1 k,
        )))))))

    own_class_after : (isolation : Written)
        → Keeps w table (class_after around isolation) (w.written isolation) w.decl
    unfolding class_after
    own_class_after isolation =
        own_past _ (λ _. own_past _ (λ _. own_anywhere _ (λ from.
        own_part _ _ own_declared (λ name middle before. own_past_at _ (λ sendable next less.
        own_part _ _ (own_opened w table nests (codes "{") refl in_class refl) (λ all to after.
        own_at _ to (own_done _ (λ k. omega (
          arith,
          w.decl-Class isolation name sendable (properties_in all.1) (initialisers_in all.1)
              (functions_in all.1)
              (in_turn _ (part_of_less _ (λ j. omega arith) before) less
              (part_of_less _ (λ j. omega (arith, members_weigh w all.1 j)) after)) k,
          members_weigh w all.1 k,
        )))))))))

    own_func_decl : (isolation : Written)
        → Keeps w table (func_decl around isolation) (w.written isolation) w.decl
    unfolding func_decl
    own_func_decl isolation =
        own_from _ none w.func (λ k. omega arith) (own_func_after isolation) (λ tree.
        own_done _ (λ k. omega (arith, w.decl-Func tree k)))

    own_global_value : (isolation : Written) (mutable : Bool)
        → Keeps w table (global_value around isolation mutable) (w.written isolation) w.decl
    unfolding global_value in_option
    own_global_value isolation mutable =
        own_then _ _ own_declared (λ name.
        own_then_knowing w.tally _ (want_type_if around table) (own_type_if around w table nests fit)
        (λ ty wants.
        own_then _ _ (own_value_for around w table nests fit (wanted_of ty) wants) (λ given.
        own_done _ (λ k.
        let it : PropTree = record {
          written = isolation;
          mutable = mutable;
          word = name;
          ty = tree_of ty;
          value = Some given.value;
        } in
        omega (arith, w.decl-Global it refl k, w.prop-is it k)))))

    own_global_after : (isolation : Written)
        → Keeps w table (global_after around isolation) (w.written isolation) w.decl
    unfolding global_after
    own_global_after isolation =
        own_either _ (own_past _ (λ _. own_global_value isolation false))
        (own_past _ (λ _. own_global_value isolation true))

    own_annotated : (isolation : Written)
        → Keeps w table (annotated around isolation) (w.written isolation) w.decl
    unfolding annotated
    own_annotated isolation =
        own_either _ (own_class_after isolation) (own_either _ (own_func_decl isolation)
        (own_global_after isolation))

    own_marked : (mark : Name)
        → Keeps w table (annotated around (writtens.At mark)) (w.label mark) w.decl
    own_marked mark =
        own_with _ (λ k. omega (arith, w.written-At mark k)) (own_annotated (writtens.At mark))

    own_decl : Keeps w table (decl around) none w.decl
    unfolding decl
    own_decl =
        own_either _ (own_then _ _ (own_mark around w table (quoted (codes "@main")) (codes "@main") refl)
        (λ mark. own_either _ (own_with _ (λ k. omega arith) own_entry)
        (own_with _ (λ k. omega arith) (own_marked mark))))
        (own_either _ (own_then _ _
        (own_mark around w table (quoted (codes "@globalActor")) (codes "@globalActor") refl)
        (λ mark. own_either _ (own_with _ (λ k. omega arith) own_global_actor)
        (own_with _ (λ k. omega arith) (own_marked mark))))
        (own_either _ (own_then _ _ (own_mark around w table plain_at_word (codes "@Sendable") refl)
        (λ mark. own_with _ (λ k. omega arith) (own_marked mark)))
        (own_either _ (own_then _ _ own_nonisolated (λ isolation.
        own_with _ (λ k. omega arith) (own_func_decl isolation)))
        (own_either _ (own_then _ _ own_concurrent (λ isolation.
        own_with _ (λ k. omega arith) (own_func_decl isolation)))
        (own_either _ own_struct_decl (own_either _ own_enum_decl (own_either _ own_actor_decl
        (own_with _ (λ k. omega (arith, w.written-Absent k)) (own_annotated writtens.Absent)))))))))

    pub own_program : Keeps w table (program around) none (in_all w.decl)
    unfolding program
    own_program =
        own_then _ _ (own_items _ El shape_of table (decl around) w.decl own_decl) (λ read.
        own_done _ (λ k. omega arith))
