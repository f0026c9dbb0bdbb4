-- What the statements of an initialiser give to properties is accepted by them.
use Rattle.std.proofs.Common.{◌≡◌, ℕ, Bool, true, false, List, [], ◌∷◌, ◌++◌, Option, Some, None}
use Rattle.std.proofs.Common.{map, flat_map, Contains, refl, ap, sym, ◌∙◌, subst, is_some, ◌&&◌}
use Rattle.std.proofs.lemmas.List.Elements.{All-nil}
use Rattle.std.proofs.lemmas.Option.{same_Some}
use Rattle.std.specs.Prelude.{if◌then◌else◌, slice_get}
use Rattle.sw_lower_formed_facts.specs.Programs.{tables_in}
use Rattle.sw_tree.proofs.FoldEquations as eq
use Rattle.sw_tree.specs.Folds.{Steps, fold_expr, fold_stmt}
use Rattle.sw_tree.specs.declared.decl.Decl.{Decl}
use Rattle.sw_tree.specs.declared.expr.Expr.{Expr}
use Rattle.sw_tree.specs.declared.expr.Expr.TheOpen as layer
use Rattle.sw_tree.specs.declared.expr.Expr.TheVariants as exprs
use Rattle.sw_tree.specs.declared.name.Name.{Name}
use Rattle.sw_tree.specs.declared.operator.AssignOp.TheVariants as assigns
use Rattle.sw_tree.specs.declared.stmt.Stmt.{Stmt}
use Rattle.sw_tree.specs.declared.stmt.Stmt.TheVariants as stmts
use Rattle.sw_types.specs.Accepts.{IsAcceptedAs}
use Rattle.sw_types.specs.declared.shape.Part.{Part}
use Rattle.sw_types.specs.declared.shape.Shape.{Shape}
use Rattle.sw_types.specs.declared.ty.Ty.{Ty}
use Rattle.sw_types.specs.declared.ty.Ty.TheVariants as types
use Rattle.sw_graph.specs.declared.function.Function.{Function}
use Rattle.sw_decl_words.specs.Evident.{meanings_of, Meanings}
use Rattle.sw_decls.specs.declared.signature.AsyncDefault.{AsyncDefault}
use Rattle.sw_typing_rules.proofs.Sound.{judges}
use Rattle.sw_typing_rules.proofs.Unique.{one_left}
use Rattle.sw_typing_rules.specs.Expressions.{Judged, me_judged, member_judged}
use Rattle.sw_typing_rules.specs.Judges as is
use Rattle.sw_typing_rules.specs.Judges.{Judges, Leaves, LeavesAll}
use Rattle.sw_typing_rules.specs.Judging.{judge}
use Rattle.sw_typing_rules.specs.Statements.{Left, State, assign_left, fixed, in_body, marked_type}
use Rattle.sw_typing_rules.specs.Statements.{misassigned, place_type, setting_of, with_only}
use Rattle.sw_typing_rules.specs.Verdicts.{ill_if, meaning_rows, rows_of}
use Rattle.sw_typing_rules.specs.Words.{Setting, found_in, found_meaning, found_types}
use Rattle.sw_typing_rules.specs.Worlds.{World, and_then}
use Rattle.sw_typing_rules.specs.declared.found.Found.{Found}
use Rattle.sw_typing_rules.specs.declared.scope.Inside.{Inside}
use Rattle.sw_isolation_rules.specs.Answers.{Answers}
use Rattle.sw_lower_plans.specs.Plan.{Numbers}
use Rattle.sw_lower_rules.specs.Carriers.{ExprCode, StmtCode}
use Rattle.sw_lower_rules.specs.Expressions.{member_code, self_code}
use Rattle.sw_lower_rules.specs.Statements.{code_steps, expr_code}
use Rattle.sw_lower_rules.specs.Tables.{Isolation, Tables}
use Rattle.sw_lower_formed_facts.specs.Forms.{ExprOk, VarsHold}
use Rattle.sw_typing_facts.specs.Rows.{RowsHold}
use Rattle.sw_lower_formed_facts.specs.Trees.{IsHere}
use Rattle.sw_lower_formed_facts.proofs.Bodies.Given.{AllHere, IsProgram}
use Rattle.sw_lower_formed_facts.proofs.Bodies.Initialisers.{AcceptsAs, GivenWith, givens_of}
use Rattle.sw_typing_facts.proofs.Lists.Listed.{in_first, in_rest}
use Rattle.sw_typing_facts.proofs.Programs.OwnAssigns.{OwnAssign}
use Rattle.sw_lower_formed_facts.proofs.Programs.OwnParts.{AreApart, OwnPart, accepts_as, own_part}
use Rattle.sw_typing_facts.proofs.Programs.PartMembers.{named_part}
use Rattle.sw_lower_formed_facts.proofs.Programs.SimpleInside.{simple_inside}
use Rattle.sw_typing_facts.proofs.Said.Rows.{not_refused, rows_left, rows_right}

-- In an initialiser each place that has a type can be assigned.
and_false : (a : Bool) → (a && false) ≡ false
and_false true = refl
and_false false = refl

not_fixed : (so : Bool) (ty : Option Ty) → so ≡ false → (if so then None else ty) ≡ ty
not_fixed so ty is = ap (λ fails. if fails then None else ty) is

-- where code stands in the initialiser of the type with a number
abbrev pub in_init : ℕ → Bool → Inside
in_init n only = with_only (in_body (Some n) true) only

-- In an initialiser a place may be assigned whatever it is.
pub place_in_init : (n : ℕ) (only : Bool) (placed : Judged)
    → place_type (in_init n only) placed ≡ placed.ty
place_in_init n only placed =
    not_fixed (fixed (in_init n only) placed) placed.ty (and_false (is_some placed.ty))

-- A value that isn't misassigned is accepted.
set_accepted : (answers : Answers) (at : ℕ) (place value : Option Ty) (from to : Ty)
    → place ≡ Some to → value ≡ Some from
    → RowsHold answers (misassigned assigns.Set at place value)
    → IsAcceptedAs from to
set_accepted answers at place value from to place_is value_is hold =
    not_refused answers at (Some from) from to refl
    (subst (λ one. RowsHold answers (misassigned assigns.Set at (Some to) one)) value_is
    (subst (λ one. RowsHold answers (misassigned assigns.Set at one value)) place_is hold))

module _ (tables : Tables) (n : ℕ) where
  -- the code of `self.p = e` in the type with a number
  own_code : (at me : ℕ) (name : Name) (value : Expr)
      → fold_stmt (code_steps tables (Some n))
      (stmts.Assign at assigns.Set (exprs.Member (exprs.Me me) name) value)
      ≡ (code_steps tables (Some n)).stmt (layer.Assign at assigns.Set
      (member_code tables (Some n) (self_code tables (Some n) me) name.at name.id)
      (expr_code tables (Some n) value))
  unfolding expr_code
  own_code at me name value =
      eq.fold_stmt-Assign steps at assigns.Set (exprs.Member (exprs.Me me) name) value
      ∙ ap (λ place. steps.stmt (layer.Assign at assigns.Set place (fold_expr steps value)))
      (eq.fold_expr-Member steps (exprs.Me me) name
      ∙ ap (λ base. steps.expr (layer.Member base name)) (eq.fold_expr-Me steps me)) where
        steps : Steps
        steps = code_steps tables (Some n)

  -- Such an assignment gives the property its value, and there are no bodies in it.
  pub own_gives : (known : Meanings) (params : ℕ → Option ℕ) (stmt : Stmt)
      (own : OwnAssign known n params stmt)
      → (fold_stmt (code_steps tables (Some n)) stmt).gives
      ≡ record { name = own.name.id; read = (expr_code tables (Some n) own.sets.value).read } ∷ []
  own_gives known params stmt own =
      ap (λ x. (fold_stmt (code_steps tables (Some n)) x).gives) own.sets.is
      ∙ ap (λ (c : StmtCode). c.gives) (own_code own.sets.at own.sets.me own.name own.sets.value)

  pub own_inside : (known : Meanings) (params : ℕ → Option ℕ) (stmt : Stmt)
      → OwnAssign known n params stmt
      → (fold_stmt (code_steps tables (Some n)) stmt).inside ≡ []
  own_inside known params stmt own =
      ap (λ x. (fold_stmt (code_steps tables (Some n)) x).inside) own.sets.is
      ∙ ap (λ (c : StmtCode). c.inside) (own_code own.sets.at own.sets.me own.name own.sets.value)
      ∙ simple_inside tables (Some n) known (Some n) params own.sets.value own.simple

-- What typing says of such an assignment in an initialiser.
module _ (world : World) (n : ℕ) (known : Meanings) (params : ℕ → Option ℕ) (only : Bool)
    (state : State) (stmt : Stmt) (own : OwnAssign known n params stmt) where
  abbrev inside : Inside
  inside = in_init n only

  abbrev setting : Setting
  setting = setting_of inside state

  abbrev base : Judged
  base = me_judged (Some n) own.sets.me

  abbrev own_placed : Judged
  own_placed = member_judged world base own.name

  abbrev own_marked : Bool
  own_marked = marked_type (place_type inside own_placed)

  abbrev own_judged : Judged
  own_judged = judge world own.sets.value setting own_marked

  abbrev own_left : Left
  own_left = assign_left inside state own.sets.at assigns.Set own_placed own_judged

  own_leaves : (left : Left) → Leaves world inside state stmt left → left ≡ own_left
  own_leaves left leaves =
      one_left world inside state stmt left own_left leaves
      (subst (λ x. Leaves world inside state x own_left) (sym own.sets.is)
      (is.assign inside state own.sets.at assigns.Set
      (exprs.Member (exprs.Me own.sets.me) own.name) own.sets.value own_placed own_judged
      (is.member setting false (exprs.Me own.sets.me) own.name base
      (is.me setting false own.sets.me))
      (judges world setting own_marked own.sets.value)))

  -- the rows of its value, and those of whether the property accepts it
  value_rows : (answers : Answers) → RowsHold answers own_left.rows
      → RowsHold answers (own_judged.rows
      ++ misassigned assigns.Set own.sets.at (place_type inside own_placed) own_judged.ty)
  value_rows answers all =
      rows_right answers (ill_if (fixed inside own_placed) own_placed.key 404) _
      (rows_right answers own_placed.rows _ all)

  pub record OwnAssigned (answers : Answers) (left : Left) : Type 0 where
    pub expected : Bool
    pub judged : Judged
    pub judges : Judges world setting expected own.sets.value judged
    pub rows : RowsHold answers judged.rows
    pub still : left.state ≡ state

  pub own_assigned : (answers : Answers) (left : Left) → Leaves world inside state stmt left
      → RowsHold answers left.rows → OwnAssigned answers left
  own_assigned answers left leaves rows =
      let is_left = own_leaves left leaves in record {
        expected = own_marked;
        judged = own_judged;
        judges = judges world setting own_marked own.sets.value;
        rows = rows_left answers own_judged.rows _ (value_rows answers
            (subst (λ (l : Left). RowsHold answers l.rows) is_left rows));
        still = ap (λ (l : Left). l.state) is_left;
      }

module _ (world : World) (isolation : Isolation) (decls : List Decl) (rule : AsyncDefault)
    (number : Numbers) (functions : List Function)
    (program : IsProgram world isolation decls rule number functions) (n : ℕ) (shape : Shape)
    (there : slice_get world.shapes n ≡ Some shape) (apart : AreApart shape)
    (params : ℕ → Option ℕ) where
  abbrev tables : Tables
  tables = tables_in world isolation decls

  abbrev One : Type 0
  One = GivenWith tables number functions (Some n) shape

  abbrev steps : Steps
  steps = code_steps tables (Some n)

  -- what a property with a name accepts
  own_accepts : (id : ℕ) (from : Ty) (own : OwnPart world n id) → IsAcceptedAs from own.part.ty
      → AcceptsAs shape id from
  own_accepts id from own accepted =
      let one = named_part decls rule world program.declared n id own.i own.member shape own.found
      own.role_is there in
      let same : one.part ≡ own.part =
      same_Some one.part own.part (sym one.at
      ∙ sym (ap (λ found. and_then found (λ (s : Shape). slice_get s.parts own.i)) there)
      ∙ own.at) in
      subst (λ name. AcceptsAs shape name from) one.name
      (accepts_as shape apart own.i one.part from one.at
      (subst (λ (p : Part). IsAcceptedAs from p.ty) (sym same) accepted))

  -- what a statement gives
  pub record Gave (stmt : Stmt) (state : State) (left : Left) : Type 0 where
    pub one : One
    pub gives : (fold_stmt steps stmt).gives ≡ one.given ∷ []
    pub inside : (fold_stmt steps stmt).inside ≡ []
    pub still : left.state ≡ state

  assign_gives : (only : Bool) (state : State) (stmt : Stmt) (left : Left)
      → Leaves world (in_init n only) state stmt left → VarsHold tables.answers state.vars
      → RowsHold tables.answers left.rows → OwnAssign (meanings_of decls) n params stmt
      → Gave stmt state left
  unfolding expr_code
  assign_gives only state stmt left leaves vars rows own = record {
    one = record {
      given = record { name = own.name.id; read = code.read };
      inside = code.inside;
      ok = record {
        from = ok.ty;
        accepted = own_accepts own.name.id ok.ty part accepted;
        read =
            ok.read;
      };
    };
    gives = own_gives tables n (meanings_of decls) params stmt own;
    inside = own_inside tables n (meanings_of decls) params stmt own;
    still = ap (λ (l : Left). l.state) left_is;
  } where
    value : Expr
    value = own.sets.value

    code : ExprCode
    code = expr_code tables (Some n) value

    none : code.inside ≡ []
    none = simple_inside tables (Some n) (meanings_of decls) (Some n) params value own.simple

    inside : Inside
    inside = in_init n only

    setting : Setting
    setting = setting_of inside state

    base : Judged
    base = me_judged (Some n) own.sets.me

    placed : Judged
    placed = own_placed world n (meanings_of decls) params only state stmt own

    judged : Judged
    judged = own_judged world n (meanings_of decls) params only state stmt own

    left_is : left ≡ assign_left inside state own.sets.at assigns.Set placed judged
    left_is = own_leaves world n (meanings_of decls) params only state stmt own left leaves

    all : RowsHold tables.answers
        (assign_left inside state own.sets.at assigns.Set placed judged).rows
    all = subst (λ (l : Left). RowsHold tables.answers l.rows) left_is rows

    found : Found
    found = found_in world (types.Named n) own.name.id

    place_rows : RowsHold tables.answers (rows_of own.name.at (found_types world found))
    place_rows = rows_right tables.answers (meaning_rows own.name.at (found_meaning found))
        (rows_of own.name.at (found_types world found))
        (rows_right tables.answers base.rows (meaning_rows own.name.at (found_meaning found)
        ++ rows_of own.name.at (found_types world found))
        (rows_left tables.answers placed.rows _ all))

    part : OwnPart world n own.name.id
    part = own_part world tables.answers n own.name.id own.name.at place_rows

    accepted_rows : RowsHold tables.answers (judged.rows
        ++ misassigned assigns.Set own.sets.at (place_type inside placed) judged.ty)
    accepted_rows =
        value_rows world n (meanings_of decls) params only state stmt own tables.answers all

    ok : ExprOk tables number functions (Some n) code judged
    ok = program.exprs setting (own_marked world n (meanings_of decls) params only state stmt own)
        value judged (judges world setting _ value) vars
        (rows_left tables.answers judged.rows _ accepted_rows)
        (subst (λ bodies. AllHere tables number functions bodies) (sym none)
        (All-nil (IsHere tables number functions)))

    accepted : IsAcceptedAs ok.ty part.part.ty
    accepted = set_accepted tables.answers own.sets.at (place_type inside placed) judged.ty ok.ty
        part.part.ty (place_in_init n only placed ∙ part.typed) ok.has
        (rows_right tables.answers judged.rows
        (misassigned assigns.Set own.sets.at (place_type inside placed) judged.ty) accepted_rows)

  -- what statements give
  pub record AllGave (xs : List Stmt) : Type 0 where
    pub all : List One
    pub gives : flat_map (λ (one : StmtCode). one.gives) (map (fold_stmt steps) xs)
        ≡ givens_of tables number functions (Some n) shape all
    pub inside : flat_map (λ (one : StmtCode). one.inside) (map (fold_stmt steps) xs) ≡ []

  more_gave : (stmt : Stmt) (xs : List Stmt) (state : State) (left : Left) → Gave stmt state left
      → AllGave xs → AllGave (stmt ∷ xs)
  more_gave stmt xs state left one rest = record {
    all = one.one ∷ rest.all;
    gives = ap (λ first. first
        ++ flat_map (λ (one : StmtCode). one.gives) (map (fold_stmt steps) xs)) one.gives
        ∙ ap (λ more. one.one.given ∷ more) rest.gives;
    inside = ap (λ first. first
        ++ flat_map (λ (one : StmtCode). one.inside) (map (fold_stmt steps) xs)) one.inside
        ∙ rest.inside;
  }

  -- Each statement of an initialiser gives a property a value that it accepts.
  pub stmts_give : (only : Bool) (state : State) (xs : List Stmt) (left : Left)
      → LeavesAll world (in_init n only) state xs left → VarsHold tables.answers state.vars
      → RowsHold tables.answers left.rows
      → ((x : Stmt) → Contains xs x → OwnAssign (meanings_of decls) n params x) → AllGave xs
  stmts_give only state xs left (is.no_stmt _ _) vars rows own =
      record { all = []; gives = refl; inside = refl }
  stmts_give only state xs left (is.one_stmt _ _ stmt more one last d rest) vars rows own =
      let first = assign_gives only state stmt one d vars
      (rows_left tables.answers one.rows last.rows rows) (own stmt (in_first stmt more)) in
      more_gave stmt more state one first
      (stmts_give only one.state more last rest
      (subst (λ (s : State). VarsHold tables.answers s.vars) (sym first.still) vars)
      (rows_right tables.answers one.rows last.rows rows)
      (λ x has. own x (in_rest stmt more x has)))
