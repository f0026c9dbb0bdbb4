-- The statements of an initialiser are `self.p = e` with simple values, where no rule is breached.
use Rattle.std.proofs.Common.{◌≡◌, ℕ, Bool, true, false, [], Option, Some, None, refl, ap, sym, ◌∙◌}
use Rattle.std.proofs.Common.{subst}
use Rattle.std.proofs.lemmas.Option.{same_Some}
use Rattle.std.specs.Prelude.{if◌then◌else◌}
use Rattle.sw_tree.specs.NodeKey.{expr_key, stmt_key}
use Rattle.sw_tree.specs.declared.expr.Expr.{Expr, out-Expr, roll-Expr, roll-out-Expr}
use Rattle.sw_tree.specs.declared.expr.Expr.TheOpen as layer
use Rattle.sw_tree.specs.declared.expr.Expr.TheVariants as exprs
use Rattle.sw_tree.specs.declared.name.Name.{Name}
use Rattle.sw_tree.specs.declared.operator.AssignOp.TheVariants as assigns
use Rattle.sw_tree.specs.declared.stmt.Stmt.{Stmt, out-Stmt, roll-Stmt, roll-out-Stmt}
use Rattle.sw_tree.specs.declared.stmt.Stmt.TheVariants as stmts
use Rattle.sw_decl_words.specs.Evident.{Layer, Meanings}
use Rattle.sw_decl_values.specs.Profile.{in_stmt, is_filled, outside, value_layer}
use Rattle.sw_decl_values.specs.Simple.{is_simple}
use Rattle.sw_decl_values.specs.Values.{StmtLayer, is_me, me_layer, own_property, place_layer, set_by}
use Rattle.sw_decl_values.specs.Values.{sets_layer}
use Rattle.sw_decl_values.specs.declared.counts.Times.{Times}

-- `self`
record IsMe (base : Expr) : Type 0 where
  at : ℕ
  is : base ≡ exprs.Me at

me_by : (base : Expr) (l : Layer) → out-Expr base ≡ l → me_layer l ≡ true → IsMe base
me_by base (layer.Int at value) out me = cc
me_by base (layer.Bool at value) out me = cc
me_by base (layer.Use name) out me = cc
me_by base (layer.Me at) out me = record {
  at = at;
  is = sym (roll-out-Expr base) ∙ ap roll-Expr out ∙ exprs.rolls-Me at;
}
me_by base (layer.Member inner name) out me = cc
me_by base (layer.Call name args) out me = cc
me_by base (layer.Method inner name args) out me = cc
me_by base (layer.Chain first rest) out me = cc
me_by base (layer.Prefix op at inner) out me = cc
me_by base (layer.Await at inner) out me = cc
me_by base (layer.Fun closure) out me = cc
me_by base (layer.Spawn at detached body) out me = cc
me_by base (layer.Yield at) out me = cc

-- a property of `self`
record IsOwn (place : Expr) (name : Name) : Type 0 where
  at : ℕ
  is : place ≡ exprs.Member (exprs.Me at) name

own_by : (place : Expr) (name : Name) (l : Layer) → out-Expr place ≡ l
    → place_layer l ≡ Some name → IsOwn place name
own_by place name (layer.Int at value) out own = cc
own_by place name (layer.Bool at value) out own = cc
own_by place name (layer.Use word) out own = cc
own_by place name (layer.Me at) out own = cc
own_by place name (layer.Member base word) out own = by (is_me base) refl own where
  by : (me : Bool) → is_me base ≡ me → (if me then Some word else None) ≡ Some name
      → IsOwn place name
  by true me own =
      let one = me_by base (out-Expr base) refl me in record {
        at = one.at;
        is = sym (roll-out-Expr place) ∙ ap roll-Expr out ∙ exprs.rolls-Member base word
            ∙ ap (λ b. exprs.Member b word) one.is
            ∙ ap (exprs.Member (exprs.Me one.at)) (same_Some word name own);
      }
  by false me own = cc
own_by place name (layer.Call word args) out own = cc
own_by place name (layer.Method inner word args) out own = cc
own_by place name (layer.Chain first rest) out own = cc
own_by place name (layer.Prefix op at inner) out own = cc
own_by place name (layer.Await at inner) out own = cc
own_by place name (layer.Fun closure) out own = cc
own_by place name (layer.Spawn at detached body) out own = cc
own_by place name (layer.Yield at) out own = cc

-- an assignment to a property of `self`
pub record SetsOwn (stmt : Stmt) (name : Name) : Type 0 where
  pub at : ℕ
  pub me : ℕ
  pub value : Expr
  pub is : stmt ≡ stmts.Assign at assigns.Set (exprs.Member (exprs.Me me) name) value
  pub out : out-Stmt stmt ≡ layer.Assign at assigns.Set (exprs.Member (exprs.Me me) name) value

set_by_op : (stmt : Stmt) (name : Name) (at : ℕ) (place value : Expr)
    → out-Stmt stmt ≡ layer.Assign at assigns.Set place value → own_property place ≡ Some name
    → SetsOwn stmt name
set_by_op stmt name at place value out own =
    let one = own_by place name (out-Expr place) refl own in
    let so : out-Stmt stmt
    ≡ layer.Assign at assigns.Set (exprs.Member (exprs.Me one.at) name) value =
    out ∙ ap (λ p. layer.Assign at assigns.Set p value) one.is in record {
      at = at;
      me = one.at;
      value = value;
      is = sym (roll-out-Stmt stmt) ∙ ap roll-Stmt so
          ∙ stmts.rolls-Assign at assigns.Set (exprs.Member (exprs.Me one.at) name) value;
      out = so;
    }

sets_by : (stmt : Stmt) (name : Name) (l : StmtLayer) → out-Stmt stmt ≡ l
    → sets_layer l ≡ Some name → SetsOwn stmt name
sets_by stmt name (layer.Bind mutable word ty value) out set = cc
sets_by stmt name (layer.Assign at assigns.Set place value) out set =
    set_by_op stmt name at place value out set
sets_by stmt name (layer.Assign at assigns.Add place value) out set = cc
sets_by stmt name (layer.Assign at assigns.Subtract place value) out set = cc
sets_by stmt name (layer.Assign at assigns.Multiply place value) out set = cc
sets_by stmt name (layer.Assign at assigns.Divide place value) out set = cc
sets_by stmt name (layer.Assign at assigns.Remainder place value) out set = cc
sets_by stmt name (layer.Discard at value) out set = cc
sets_by stmt name (layer.If arms otherwise) out set = cc
sets_by stmt name (layer.While at cond body) out set = cc
sets_by stmt name (layer.Switch at subject arms otherwise) out set = cc
sets_by stmt name (layer.Return at value) out set = cc
sets_by stmt name (layer.Break at) out set = cc
sets_by stmt name (layer.Continue at) out set = cc
sets_by stmt name (layer.Plain value) out set = cc

-- a statement of an initialiser
pub record OwnAssign (known : Meanings) (n : ℕ) (params : ℕ → Option ℕ) (stmt : Stmt)
    : Type 0 where
  pub name : Name
  pub sets : SetsOwn stmt name
  pub simple : is_simple known (Some n) params sets.value ≡ true

-- what isn't reported holds
pub simple_if : (so : Bool) (at : ℕ) → (if so then [] else outside at) ≡ [] → so ≡ true
simple_if true at none = refl
simple_if false at none = cc

-- A statement that breaches no rule is an assignment of a simple value to an own property.
pub own_assign : (known : Meanings) (n : ℕ) (params wanted : ℕ → Option ℕ)
    (given : ℕ → Option Times) (stmt : Stmt) → in_stmt known n params wanted given stmt ≡ []
    → OwnAssign known n params stmt
own_assign known n params wanted given stmt none = by (set_by stmt) refl none where
  assigned : (name : Name) → set_by stmt ≡ Some name
      → value_layer known n params (out-Stmt stmt) ≡ [] → OwnAssign known n params stmt
  assigned name is none =
      let sets = sets_by stmt name (out-Stmt stmt) refl is in record {
        name = name;
        sets = sets;
        simple = simple_if (is_simple known (Some n) params sets.value) (expr_key sets.value)
            (subst (λ l. value_layer known n params l ≡ []) sets.out none);
      }

  if_filled : (name : Name) → set_by stmt ≡ Some name → (filled : Bool)
      → (if filled then value_layer known n params (out-Stmt stmt) else outside (stmt_key stmt))
      ≡ []
      → OwnAssign known n params stmt
  if_filled name is true none = assigned name is none
  if_filled name is false none = cc

  by : (set : Option Name) → set_by stmt ≡ set
      → (if is_filled wanted given set then value_layer known n params (out-Stmt stmt)
      else outside (stmt_key stmt)) ≡ [] → OwnAssign known n params stmt
  by None is none = cc
  by (Some name) is none = if_filled name is (is_filled wanted given (Some name)) none
