-- What is said of the nodes of a program without an ill node holds in its tables.
use Rattle.std.proofs.Common.{◌≡◌, List, [], ◌∷◌, Some, None, refl, Contains, ◌++◌, subst}
use Rattle.std.proofs.lemmas.List.Elements.{All-contains_itself, All-map, Contains-append_left}
use Rattle.std.proofs.lemmas.List.Elements.{Contains-append_right}
use Rattle.sw_tree.specs.Contents.{AreKeyed}
use Rattle.sw_tree.specs.declared.decl.Decl.{Decl}
use Rattle.sw_tree.specs.declared.decl.ParamTree.{ParamTree}
use Rattle.sw_types.specs.Accepts.{IsAcceptedAs, is_marked}
use Rattle.sw_types.specs.declared.ty.Ty.{Ty}
use Rattle.sw_decl_words.specs.TypeWords.{type_of}
use Rattle.sw_typing_rules.specs.Expressions.{Judged}
use Rattle.sw_typing_rules.specs.Judges.{Judges, LeavesBlock}
use Rattle.sw_typing_rules.specs.Programs.{BodyOf, IsFirstIll, Says, ValueOf, bodies_from}
use Rattle.sw_typing_rules.specs.Programs.{body_state, of_body, of_value, param_var, params_of}
use Rattle.sw_typing_rules.specs.Programs.{said, value_setting, values_from}
use Rattle.sw_typing_rules.specs.Statements.{Left, in_body, lacks_result, refused, vars_rows}
use Rattle.sw_typing_rules.specs.Verdicts.{ill_if}
use Rattle.sw_typing_rules.specs.Worlds.{World}
use Rattle.sw_typing_rules.specs.declared.row.Row.{Row}
use Rattle.sw_typing_rules.specs.declared.row.Row.TheVariants.{Ill, Means, Typed}
use Rattle.sw_isolation_rules.specs.Answers.{Answers, answers_in}
use Rattle.sw_lower_formed_facts.specs.Forms.{VarHolds, VarsHold}
use Rattle.sw_typing_facts.specs.Rows.{RowHolds, RowsHold}
use Rattle.sw_lower_formed_facts.proofs.Headers.ParamTypes.{typed_param}
use Rattle.sw_typing_facts.proofs.Lists.Listed.{in_first, in_rest}
use Rattle.sw_typing_facts.proofs.Said.Once.{meant_once, typed_once}
use Rattle.sw_typing_facts.proofs.Said.Rows.{not_refused, rows_left, rows_right}

-- what holds of each of the rows
pub each_holds : (answers : Answers) (rows : List Row)
    → ((row : Row) → Contains rows row → RowHolds answers row) → RowsHold answers rows
each_holds answers [] holds = tt
each_holds answers (row ∷ rows) holds = (
  holds row (in_first row rows),
  each_holds answers rows
      (λ one has. holds one (in_rest row rows one has)),
)

module _ (world : World) (decls : List Decl) (keyed : AreKeyed decls)
    (well : IsFirstIll world decls None) where
  abbrev said_answers : Answers
  said_answers = answers_in (said world decls)

  row_holds : (row : Row) → Says world decls row → RowHolds said_answers row
  row_holds (Typed at ty) says = typed_once world decls keyed at ty says
  row_holds (Means at meaning) says = meant_once world decls keyed at meaning says
  row_holds (Ill at code unless) says = well at code (unless, says)

  -- what the statements of a body leave
  pub body_rows_hold : (body : BodyOf) (left : Left) → Contains (bodies_from world 0 decls) body
      → LeavesBlock world (in_body body.owner body.init) (body_state world body) body.block left
      → RowsHold said_answers left.rows
  body_rows_hold body left stands leaves =
      each_holds said_answers left.rows (λ row has. row_holds row
      (of_body body left row stands leaves
      (Contains-append_right (vars_rows (params_of world body)) _ row
      (Contains-append_left left.rows (ill_if (lacks_result left) body.at 406) row has))))

  -- what is noted of a first value
  value_noted_holds : (value : ValueOf) (judged : Judged)
      → Contains (values_from world 0 decls) value
      → Judges world (value_setting value) (is_marked value.wanted) value.value judged
      → RowsHold said_answers (judged.rows ++ refused value.at judged.ty value.wanted)
  value_noted_holds value judged stands judges =
      each_holds said_answers (judged.rows ++ refused value.at judged.ty value.wanted)
      (λ row has. row_holds row (of_value value judged row stands judges has))

  -- what is noted of the nodes of a first value
  pub value_rows_hold : (value : ValueOf) (judged : Judged)
      → Contains (values_from world 0 decls) value
      → Judges world (value_setting value) (is_marked value.wanted) value.value judged
      → RowsHold said_answers judged.rows
  value_rows_hold value judged stands judges =
      rows_left said_answers judged.rows (refused value.at judged.ty value.wanted)
      (value_noted_holds value judged stands judges)

  -- A first value is accepted where it goes.
  pub value_goes : (value : ValueOf) (judged : Judged) (from : Ty)
      → Contains (values_from world 0 decls) value
      → Judges world (value_setting value) (is_marked value.wanted) value.value judged
      → judged.ty ≡ Some from → IsAcceptedAs from value.wanted
  value_goes value judged from stands judges is =
      not_refused said_answers value.at (Some from) from value.wanted refl
      (subst (λ ty. RowsHold said_answers (refused value.at ty value.wanted)) is
      (rows_right said_answers judged.rows (refused value.at judged.ty value.wanted)
      (value_noted_holds value judged stands judges)))

  -- The parameters of a body have types.
  pub params_hold : (body : BodyOf) → Contains (bodies_from world 0 decls) body
      → VarsHold said_answers (params_of world body)
  params_hold body stands =
      All-map (VarHolds said_answers) (param_var world) body.params
      (λ k d below. holds _ (All-contains_itself body.params k d below)) where
        holds : (param : ParamTree) → Contains body.params param
            → VarHolds said_answers (param_var world param)
        holds param has = record {
          ty = type_of world.known.top param.ty;
          has = refl;
          typed = typed_once world decls keyed param.name.at (type_of world.known.top param.ty)
              (typed_param world decls body param stands has);
        }
