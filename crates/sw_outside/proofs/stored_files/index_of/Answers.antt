use Rattle.sw_outside.proofs.FileLemmas.{find_file-found, find_file-not_found, with_file-found}
use Rattle.sw_outside.proofs.FileLemmas.{with_file-not_found}
use Rattle.sw_outside.proofs.stored_files.index_of.Goals as goal

pub returns-clause-found : goal.returns-clause-found
returns-clause-found c = find_file-found c.args.files.now c.args.name.now _ c.first_named.ensures

pub returns-clause-missing : goal.returns-clause-missing
returns-clause-missing c =
    find_file-not_found c.args.files.now c.args.name.now _ c.first_named.ensures

pub returns-clause-replaced : goal.returns-clause-replaced
returns-clause-replaced c = with_file-found c.args.files.now c.args.name.now _ c.first_named.ensures

pub returns-clause-added : goal.returns-clause-added
returns-clause-added c =
    with_file-not_found c.args.files.now c.args.name.now _ c.first_named.ensures
