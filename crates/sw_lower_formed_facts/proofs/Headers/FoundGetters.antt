-- A getter that is found is that of a property or of a global variable.
use Rattle.std.proofs.Common.{◌≡◌, ℕ, Some, List, Contains, ◌⊎◌, ap, ◌∙◌}
use Rattle.sw_tree.specs.Contents.{AreKeyed}
use Rattle.sw_tree.specs.declared.decl.Decl.{Decl}
use Rattle.sw_decls.specs.declared.signature.AsyncDefault.{AsyncDefault}
use Rattle.sw_typing_rules.specs.Worlds.{IsWorldOf, World}
use Rattle.sw_isolation_rules.specs.Answers.{Answers}
use Rattle.sw_lower_code.specs.Whole.{Body}
use Rattle.sw_lower_rules.specs.Bodies.{AreNumbered, AreOrdered, functions_of, numbers_of}
use Rattle.sw_lower_rules.specs.Bodies.{program_bodies, tables_of}
use Rattle.sw_lower_rules.specs.Tables.{Isolation, Tables, getter_of, name_of}
use Rattle.sw_lower_plans.specs.declared.name.FunctionName.{FunctionName}
use Rattle.sw_lower_formed_facts.specs.Ground.{IsHeader}
use Rattle.sw_lower_formed_facts.proofs.Functions.Takes.{kinds_of}
use Rattle.sw_lower_formed_facts.proofs.Headers.ByName.{body_found}
use Rattle.sw_lower_formed_facts.proofs.Headers.Getters.{GlobalGetter, IsObjectDecl, PartGetter, getter_in}
use Rattle.sw_lower_formed_facts.proofs.Headers.Getters.{props_of}
use Rattle.sw_lower_formed_facts.proofs.Bodies.MadeOf.{body_made}
use Rattle.sw_typing_facts.proofs.Programs.Standing.{Stands}

module _ (world : World) (answers : Answers) (isolation : Isolation) (decls : List Decl)
    (rule : AsyncDefault) (keys : AreKeyed decls)
    (is : IsWorldOf decls rule world) (ordered : List Body)
    (are : AreOrdered (tables_of world answers isolation decls) decls ordered)
    (numbered : AreNumbered ordered) where
  abbrev tables : Tables
  tables = tables_of world answers isolation decls

  -- a getter that is found, and whose it is
  pub record GetterAt (key f : ℕ) : Type 0 where
    pub body : Body
    pub has : Contains (program_bodies tables decls) body
    pub found : numbers_of ordered (name_of body) ≡ Some f
    pub n : ℕ
    pub g : ℕ
    pub decl : Decl
    pub stands : Stands decls n g decl
    pub whose : (IsObjectDecl decl × PartGetter tables n 0 (props_of decl) body)
        ⊎ GlobalGetter tables g decl body
    pub key_is : body.key ≡ key
    pub header : IsHeader (functions_of ordered) (kinds_of body) body.result f

  -- the getter of a key
  pub getter_at : (key f : ℕ) → numbers_of ordered (getter_of key) ≡ Some f → GetterAt key f
  getter_at key f found =
      let one = body_found (program_bodies tables decls) ordered are.bodies numbered
      (getter_of key) f found in
      let made = body_made tables decls one.body one.has in record {
        body = one.body;
        has = one.has;
        found = ap (numbers_of ordered) one.named ∙ found;
        n = made.n;
        g = made.g;
        decl = made.decl;
        stands = made.stands;
        whose = getter_in tables made.n made.g made.decl one.body made.has
            (ap (λ (name : FunctionName). name.getter) one.named);
        key_is = ap (λ (name : FunctionName). name.key) one.named;
        header = one.header;
      }
