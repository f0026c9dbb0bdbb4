-- The bodies that are made of a declaration are made of its program.
use Rattle.std.proofs.Common.{◌≡◌, ℕ, ◌+◌, List, [], ◌∷◌, ◌++◌, Contains}
use Rattle.std.proofs.Common.{refl, ap, sym, subst}
use Rattle.sw_tree.specs.declared.decl.Decl.{Decl}
use Rattle.sw_decl_words.specs.Words.{shapes_made}
use Rattle.sw_lower_code.specs.Whole.{Body}
use Rattle.sw_lower_rules.specs.Bodies.{bodies_from, decl_bodies, program_bodies}
use Rattle.sw_decl_words.specs.Words.{globals_made}
use Rattle.sw_lower_rules.specs.Tables.{Tables}
use Rattle.sw_typing_facts.proofs.Programs.Standing.{MadeBy, Stands, made_by_one, made_from}
use Rattle.sw_typing_facts.proofs.Programs.Standing.{maker_of}

-- and the bodies that are lowered
bodies_are : (tables : Tables) (number index : ℕ) (decls : List Decl)
    → bodies_from tables number index decls ≡ made_from (decl_bodies tables) number index decls
bodies_are tables number index [] = refl
bodies_are tables number index (decl ∷ decls) =
    ap (λ more. decl_bodies tables number index decl ++ more)
    (bodies_are tables (number + shapes_made decl) (index + globals_made decl) decls)

-- a body of a declaration is one of the program
pub body_stands : (tables : Tables) (decls : List Decl) (n g : ℕ) (decl : Decl) (body : Body)
    → Stands decls n g decl → Contains (decl_bodies tables n g decl) body
    → Contains (program_bodies tables decls) body
body_stands tables decls n g decl body stands has =
    subst (λ bodies. Contains bodies body) (sym (bodies_are tables 0 0 decls))
    (made_by_one (decl_bodies tables) 0 0 decls n g decl body stands has)

-- the declaration that makes a body
pub body_made : (tables : Tables) (decls : List Decl) (body : Body)
    → Contains (program_bodies tables decls) body → MadeBy (decl_bodies tables) 0 0 decls body
body_made tables decls body has =
    maker_of (decl_bodies tables) 0 0 decls body
    (subst (λ bodies. Contains bodies body) (bodies_are tables 0 0 decls) has)
