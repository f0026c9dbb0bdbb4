-- Properties of classes and actors that have no value.
use Rattle.std.specs.Prelude.{ℕ, Bool, true, false, ◌||◌, List, [], ◌∷◌, Option, Some, None}
use Rattle.std.specs.Prelude.{flat_map, is_some, option_to_list, if◌then◌else◌}
use Rattle.sw_tree.specs.declared.decl.InitTree.{InitTree}
use Rattle.sw_tree.specs.declared.decl.PropTree.{PropTree}
use Rattle.sw_tree.specs.declared.expr.Arg.{Arg}
use Rattle.sw_tree.specs.declared.expr.Closure.{Closure}
use Rattle.sw_tree.specs.declared.expr.Expr.{Expr, out-Expr}
use Rattle.sw_tree.specs.declared.expr.Expr.TheOpen as layer
use Rattle.sw_tree.specs.declared.expr.Link.{Link}
use Rattle.sw_tree.specs.declared.name.Name.{Name}
use Rattle.sw_tree.specs.declared.operator.AssignOp.{AssignOp}
use Rattle.sw_tree.specs.declared.operator.AssignOp.TheVariants as op
use Rattle.sw_tree.specs.declared.stmt.Block.{Block}
use Rattle.sw_tree.specs.declared.stmt.CaseArm.{CaseArm}
use Rattle.sw_tree.specs.declared.stmt.IfArm.{IfArm}
use Rattle.sw_tree.specs.declared.stmt.Stmt.{Stmt, out-Stmt}
use Rattle.sw_decl_words.specs.Evident.{Layer}
use Rattle.sw_decl_names.specs.Repeats.{first_place}
use Rattle.sw_decl_words.specs.declared.placed.Placed.{Placed}

abbrev pub me_layer : Layer → Bool
me_layer (layer.Me at) = true
me_layer _ = false

-- whether an expression is `self`
abbrev pub is_me : Expr → Bool
is_me expr = me_layer (out-Expr expr)

abbrev pub place_layer : Layer → Option Name
place_layer (layer.Member base name) = if is_me base then Some name else None
place_layer _ = None

-- the property `p` of a place `self.p`
abbrev pub own_property : Expr → Option Name
own_property place = place_layer (out-Expr place)

abbrev pub set_place : AssignOp → Expr → Option Name
set_place op.Set place = own_property place
set_place _ place = None

abbrev pub StmtLayer : Type 0
StmtLayer = layer.Stmt-F Expr Stmt Arg Closure Link Block CaseArm IfArm

abbrev pub sets_layer : StmtLayer → Option Name
sets_layer (layer.Assign at operator place value) = set_place operator place
sets_layer _ = None

-- the property that a statement `self.p = e` gives a value
abbrev pub set_by : Stmt → Option Name
set_by stmt = sets_layer (out-Stmt stmt)

-- the properties that statements give values; what stands inside others doesn't count
abbrev pub set_in : List Stmt → List Name
set_in stmts = flat_map (λ stmt. option_to_list (set_by stmt)) stmts

-- the properties that the first initialiser gives a value
abbrev pub set_first : List InitTree → List Name
set_first [] = []
set_first (init ∷ more) = set_in init.body.stmts

-- The property has a first value, or one of the assignments is its own.
abbrev pub has_value : (ℕ → Option ℕ) → PropTree → Bool
has_value places prop = is_some prop.value || is_some (places prop.word.id)

abbrev pub lacking : (ℕ → Option ℕ) → PropTree → List Placed
lacking places prop =
    if has_value places prop then [] else record { at = prop.word.at; code = 305 } ∷ []

-- the properties of a class or an actor that have no value
abbrev pub without_value : List PropTree → List InitTree → List Placed
without_value props inits = flat_map (lacking (first_place (set_first inits))) props
