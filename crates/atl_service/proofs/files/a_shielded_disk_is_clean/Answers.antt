use Rattle.std.proofs.Common.{refl}
use Rattle.sqlite_disk.specs.Modelled.{start_of}
use Rattle.atl_service.proofs.FileLaws.{shielded_is_clean}
use Rattle.atl_service.proofs.files.a_shielded_disk_is_clean.Goals as goal

pub returns : goal.returns
returns g c shielded =
    shielded_is_clean (start_of g.S.Start) (λ f. g.C.Calls.history f.calls) (λ _. refl) (λ _. refl)
    c.args.service.now.conn shielded
