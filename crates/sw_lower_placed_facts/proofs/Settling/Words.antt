-- The words of types are their own keys.
use Rattle.std.proofs.Common.{◌≡◌, ℕ, List, Some, ap, arith, subst}
use Rattle.std.specs.Prelude.{slice_get}
use Rattle.sw_tree.specs.Contents.{AreKeyed}
use Rattle.sw_tree.specs.Keys.{keys_of}
use Rattle.sw_tree.specs.declared.decl.Decl.{Decl}
use Rattle.sw_tree.proofs.Counting.{hits, hits_same}
use Rattle.sw_types.specs.declared.shape.Shape.{Shape}
use Rattle.sw_decl_words.specs.Evident.{meanings_of}
use Rattle.sw_decls.specs.Declaring.{made_shapes}
use Rattle.sw_decls.specs.declared.signature.AsyncDefault.{AsyncDefault}
use Rattle.sw_typing_rules.proofs.OneWorld.{distinct_once}
use Rattle.sw_typing_rules.specs.Worlds.{IsWorldOf, World}
use Rattle.sw_typing_facts.proofs.Programs.Keyed.{one_index}
use Rattle.sw_typing_facts.proofs.Said.OneAnswer.{types_count, types_told}
use Rattle.sw_typing_facts.proofs.Said.Programs.{all_said, in_shape}

pub one_word : (decls : List Decl) (rule : AsyncDefault) (world : World) → AreKeyed decls
    → IsWorldOf decls rule world → (j k : ℕ) (one other : Shape)
    → slice_get world.shapes j ≡ Some one → slice_get world.shapes k ≡ Some other
    → one.at ≡ other.at → j ≡ k
one_word decls rule world keyed is j k one other here there same =
    one_index in_shape (made_shapes decls) j k one other other.at
    (omega (
      arith,
      all_said types_told types_count world (meanings_of decls) decls other.at,
      distinct_once (keys_of decls) keyed other.at,
    ))
    (subst (λ shapes. slice_get shapes j ≡ Some one) is.shapes here)
    (subst (λ shapes. slice_get shapes k ≡ Some other) is.shapes there)
    (omega (arith, hits_same other.at, ap (λ at. hits at other.at) same))
    (omega (arith, hits_same other.at))
