-- How often a key stands in the blocks and the first values of a declaration, beside the keys of a
-- type's members.
use Rattle.std.proofs.Common.{ℕ, ◌+◌, ◌≤◌, List, [], ◌∷◌}
use Rattle.std.proofs.Common.{arith}
use Rattle.sw_tree.specs.declared.decl.Decl.{Decl}
use Rattle.sw_tree.specs.declared.decl.Decl.TheVariants.{Entry, Struct, Enum, Class, Actor}
use Rattle.sw_tree.specs.declared.decl.Decl.TheVariants.{GlobalActor, Func, Global}
use Rattle.sw_tree.specs.declared.decl.FuncTree.{FuncTree}
use Rattle.sw_tree.specs.declared.decl.InitTree.{InitTree}
use Rattle.sw_tree.proofs.Counting.{Weight, hits, in_all, in_all-cons, in_all-nil}
use Rattle.sw_tree.proofs.Counting.{in_option}
use Rattle.sw_tree.proofs.KeyCounts as keys
use Rattle.sw_tree.proofs.KeyCounts.{in_block, in_decl, in_expr, in_func, in_init, in_prop}

-- the keys in the blocks of members, and their own
abbrev pub deep_init : InitTree → Weight
deep_init init k = in_block init.body k

abbrev pub deep_func : FuncTree → Weight
deep_func tree k = in_block tree.body k

abbrev pub head_init : InitTree → Weight
head_init init k = hits init.at k

abbrev pub head_func : FuncTree → Weight
head_func tree k = hits tree.word.at k

-- how often a key stands in the blocks and the first values of a declaration
abbrev pub deep_of : Decl → Weight
deep_of (Entry word written at is_async body) k = in_block body k
deep_of (Struct word conforms fields funcs) k = in_all deep_func funcs k
deep_of (Enum word conforms cases funcs) k = in_all deep_func funcs k
deep_of (Class written word conforms props inits funcs) k =
    in_all deep_init inits k + in_all deep_func funcs k
deep_of (Actor word props inits funcs) k = in_all deep_init inits k + in_all deep_func funcs k
deep_of (GlobalActor word made) k = 0
deep_of (Func func) k = deep_func func k
deep_of (Global prop) k = in_option in_expr prop.value k

-- two parts of each of a list
two_parts : {X : Type 0} (one other w : X → Weight) (k : ℕ)
    → ((x : X) → one x k + other x k ≤ w x k) → (xs : List X)
    → in_all one xs k + in_all other xs k ≤ in_all w xs k
two_parts one other w k each [] = omega (arith, in_all-nil one k, in_all-nil other k)
two_parts one other w k each (x ∷ xs) =
    omega (
      arith,
      in_all-cons one x xs k,
      in_all-cons other x xs k,
      in_all-cons w x xs k,
      each x,
      two_parts one other w k each xs,
    )

pub inits_split : (k : ℕ) (inits : List InitTree)
    → in_all head_init inits k + in_all deep_init inits k ≤ in_all in_init inits k
inits_split k =
    two_parts head_init deep_init in_init k (λ init. omega (arith, keys.in_init-is init k))

pub funcs_split : (k : ℕ) (funcs : List FuncTree)
    → in_all head_func funcs k + in_all deep_func funcs k ≤ in_all in_func funcs k
funcs_split k =
    two_parts head_func deep_func in_func k (λ tree. omega (arith, keys.in_func-is tree k))

pub deep_counted : (decl : Decl) (k : ℕ) → deep_of decl k ≤ in_decl decl k
deep_counted (Entry word written at is_async body) k =
    omega (arith, keys.in_decl-Entry word written at is_async body k)
deep_counted (Struct word conforms fields funcs) k =
    omega (arith, funcs_split k funcs, keys.in_decl-Struct word conforms fields funcs k)
deep_counted (Enum word conforms cases funcs) k =
    omega (arith, funcs_split k funcs, keys.in_decl-Enum word conforms cases funcs k)
deep_counted (Class written word conforms props inits funcs) k =
    omega (
      arith,
      inits_split k inits,
      funcs_split k funcs,
      keys.in_decl-Class written word conforms props inits funcs k,
    )
deep_counted (Actor word props inits funcs) k =
    omega (
      arith,
      inits_split k inits,
      funcs_split k funcs,
      keys.in_decl-Actor word props inits funcs k,
    )
deep_counted (GlobalActor word made) k = omega arith
deep_counted (Func func) k = omega (arith, keys.in_decl-Func func k, keys.in_func-is func k)
deep_counted (Global prop) k = omega (arith, keys.in_decl-Global prop k, keys.in_prop-is prop k)
