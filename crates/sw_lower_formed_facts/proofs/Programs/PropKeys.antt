-- The keys of properties and of global variables are among those of their declarations.
use Rattle.std.proofs.Common.{◌≡◌, ℕ, ◌≤◌, Some, None, ap, subst, arith}
use Rattle.std.specs.Prelude.{slice_get}
use Rattle.sw_tree.proofs.Counting.{hits, hits_same, in_all}
use Rattle.sw_tree.proofs.KeyCounts as counts
use Rattle.sw_tree.proofs.KeyCounts.{in_decl, in_prop}
use Rattle.sw_tree.specs.declared.decl.Decl.{Decl}
use Rattle.sw_tree.specs.declared.decl.Decl.TheVariants.{Entry, Struct, Enum, Class, Actor}
use Rattle.sw_tree.specs.declared.decl.Decl.TheVariants.{GlobalActor, Func, Global}
use Rattle.sw_tree.specs.declared.decl.PropTree.{PropTree}
use Rattle.sw_lower_formed_facts.proofs.Headers.Getters.{props_of}
use Rattle.sw_typing_facts.proofs.Programs.Keyed.{counted_at}

-- the key of a property is one of its type's
pub props_in : (decl : Decl) (k : ℕ) → in_all in_prop (props_of decl) k ≤ in_decl decl k
unfolding in_all
props_in (Entry word written at is_async body) k = omega arith
props_in (Struct word conforms fields funcs) k =
    omega (arith, counts.in_decl-Struct word conforms fields funcs k)
props_in (Enum word conforms cases funcs) k = omega arith
props_in (Class written word conforms props inits funcs) k =
    omega (arith, counts.in_decl-Class written word conforms props inits funcs k)
props_in (Actor word props inits funcs) k =
    omega (arith, counts.in_decl-Actor word props inits funcs k)
props_in (GlobalActor word made) k = omega arith
props_in (Func func) k = omega arith
props_in (Global global) k = omega arith

-- a property has its own key
pub own_key : (prop : PropTree) (k : ℕ) → prop.word.at ≡ k → 1 ≤ in_prop prop k
own_key prop k is =
    omega (arith, counts.in_prop-is prop k, hits_same k, ap (λ at. hits at k) is)

-- so its declaration has it
pub prop_key_in : (decl : Decl) (i : ℕ) (prop : PropTree) (k : ℕ)
    → slice_get (props_of decl) i ≡ Some prop → prop.word.at ≡ k → 1 ≤ in_decl decl k
prop_key_in decl i prop k at is =
    omega (
      arith,
      props_in decl k,
      counted_at in_prop (props_of decl) i prop k at,
      own_key prop k is,
    )

-- the declaration of a global variable has the key of its word
pub global_key_in : (decl : Decl) (prop : PropTree) (k : ℕ) → decl ≡ Global prop → prop.word.at ≡ k
    → 1 ≤ in_decl decl k
global_key_in decl prop k decl_is is =
    omega (
      arith,
      ap (λ one. in_decl one k) decl_is,
      counts.in_decl-Global prop k,
      own_key prop k is,
    )

-- a global variable has no properties
pub no_props : (decl : Decl) (global prop : PropTree) (i : ℕ) → decl ≡ Global global
    → slice_get (props_of decl) i ≡ Some prop → ⊥
no_props decl global prop i is at =
    let never : None ≡ Some prop = subst (λ one. slice_get (props_of one) i ≡ Some prop) is at in
    cc
