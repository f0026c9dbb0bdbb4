-- What is so of the keys of the bodies that are noted as isolated to `self`.
use Rattle.std.specs.Prelude.{◌≡◌, ℕ, ◌≤◌, true, List}
use Rattle.sw_tree.proofs.KeyCounts.{in_decl}
use Rattle.sw_tree.specs.declared.decl.Decl.{Decl}
use Rattle.sw_tree.specs.declared.decl.Decl.TheVariants.{Actor}
use Rattle.sw_tree.specs.declared.decl.FuncTree.{FuncTree}
use Rattle.sw_tree.specs.declared.decl.InitTree.{InitTree}
use Rattle.sw_tree.specs.declared.decl.PropTree.{PropTree}
use Rattle.sw_tree.specs.declared.name.Name.{Name}
use Rattle.sw_isolation_rules.specs.Kinds.{is_own}
use Rattle.sw_isolation_rules.specs.declared.note.Note.{Note}
use Rattle.sw_isolation_rules.specs.declared.note.Note.TheVariants as notes
use Rattle.sw_typing_facts.proofs.Programs.Standing.{Stands}

abbrev pub NoteOwn : (ℕ → Type 0) → Note → Type 0
NoteOwn Good (notes.Body body) = is_own body.iso ≡ true → Good body.key
NoteOwn Good _ = Unit {0}

-- The key is that of a node of an actor's declaration.
pub record OwnKey (decls : List Decl) (key : ℕ) : Type 0 where
  pub n : ℕ
  pub g : ℕ
  pub word : Name
  pub props : List PropTree
  pub inits : List InitTree
  pub funcs : List FuncTree
  pub stands : Stands decls n g (Actor word props inits funcs)
  pub counted : 1 ≤ in_decl (Actor word props inits funcs) key
