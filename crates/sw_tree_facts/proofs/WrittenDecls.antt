-- Declarations have nothing unwritten where no task in them has a parameter and each chain in them
-- has an operator.
use Rattle.std.proofs.Common.{List, Option, None, Some, refl}
use mathlib.Core.List.{append-eq-nil_iff}
use Rattle.sw_tree.proofs.TreeInduction.{Given}
use Rattle.sw_tree.specs.declared.decl.Decl.{Decl}
use Rattle.sw_tree.specs.declared.decl.Decl.TheVariants.{Entry, Struct, Enum, Class, Actor}
use Rattle.sw_tree.specs.declared.decl.Decl.TheVariants.{GlobalActor, Func, Global}
use Rattle.sw_tree.specs.declared.decl.FuncTree.{FuncTree}
use Rattle.sw_tree.specs.declared.decl.InitTree.{InitTree}
use Rattle.sw_tree.specs.declared.decl.PropTree.{PropTree}
use Rattle.sw_tree.specs.declared.expr.Expr.{Expr}
use Rattle.sw_tree_facts.proofs.LackingParts.{IsEnough, by_part, parts_flat, part_given}
use Rattle.sw_tree_facts.proofs.WrittenTrees.{expr_lacks, block_lacks}
use Rattle.sw_tree_facts.specs.Parts.{of_expr, of_block, of_prop, of_func, of_init, of_decl}
use Rattle.sw_tree_facts.specs.Parts.{of_decls}
use Rattle.sw_tree_facts.specs.Parts as parts

-- a value that may be there
given_lacks : (value : Option Expr) → Given (λ expr. IsEnough (of_expr expr)) value
given_lacks None = tt
given_lacks (Some value) = expr_lacks value

prop_lacks : (prop : PropTree) → IsEnough (of_prop prop)
prop_lacks prop = part_given of_expr prop.value (given_lacks prop.value) (parts.prop_value prop)

func_lacks : (func : FuncTree) → IsEnough (of_func func)
func_lacks func = by_part (block_lacks func.body) (parts.func_body func)

init_lacks : (init : InitTree) → IsEnough (of_init init)
init_lacks init = by_part (block_lacks init.body) (parts.init_body init)

decl_lacks : (decl : Decl) → IsEnough (of_decl decl)
decl_lacks (Entry word written at is_async body) lacks =
    by_part (block_lacks body) (parts.entry_body word written at is_async body) lacks
decl_lacks (Struct word conforms fields funcs) lacks =
    append-eq-nil_iff.1 (
      parts_flat of_prop fields prop_lacks (parts.struct_field word conforms fields funcs) lacks,
      parts_flat of_func funcs func_lacks (parts.struct_func word conforms fields funcs) lacks,
    )
decl_lacks (Enum word conforms given funcs) lacks =
    parts_flat of_func funcs func_lacks (parts.enum_func word conforms given funcs) lacks
decl_lacks (Class written word conforms props inits funcs) lacks =
    append-eq-nil_iff.1 (
      append-eq-nil_iff.1 (
        parts_flat of_prop props prop_lacks
            (parts.class_prop written word conforms props inits funcs) lacks,
        parts_flat of_init inits init_lacks
            (parts.class_init written word conforms props inits funcs) lacks,
      ),
      parts_flat of_func funcs func_lacks
          (parts.class_func written word conforms props inits funcs) lacks,
    )
decl_lacks (Actor word props inits funcs) lacks =
    append-eq-nil_iff.1 (
      append-eq-nil_iff.1 (
        parts_flat of_prop props prop_lacks (parts.actor_prop word props inits funcs) lacks,
        parts_flat of_init inits init_lacks (parts.actor_init word props inits funcs) lacks,
      ),
      parts_flat of_func funcs func_lacks (parts.actor_func word props inits funcs) lacks,
    )
decl_lacks (GlobalActor word made) lacks = refl
decl_lacks (Func func) lacks = by_part (func_lacks func) (parts.decl_func func) lacks
decl_lacks (Global prop) lacks = by_part (prop_lacks prop) (parts.decl_global prop) lacks

pub decls_lack : (all : List Decl) → IsEnough (of_decls all)
decls_lack all = parts_flat of_decl all decl_lacks (parts.one_decl all)
