-- Law: a connection over files whose reads are compared with digests has a clean disk, or two digests have collided. A
-- disk is clean if each read has returned what was written (docs/PROVED.md, "Premises").
-- `D` is the type of a file, `start` gives the bytes that it began with, and `record_of` its calls since. By the two
-- premises `g`, which has what contracts say of a file, agrees with these calls. It says whether no wrong bytes were
-- taken as true (`is_clean`), or only such as passed the test of their digest (`is_fair`).
use Rattle.std.proofs.Common.{◌≡◌, ◌⊎◌, ℕ, Bool, true, false, List, IsTrue, inl, inr, refl}
use Rattle.std.proofs.lemmas.Bool.{false≢true}
use Rattle.sqlite_disk.specs.Events.{Event, replay}
use Rattle.sqlite_disk.specs.declared.Disk as disk
use Rattle.sqlite_store.specs.declared.store.FileStore.{FileStore}
use Rattle.sqlite_store.specs.FileStore.{is_shielded}
use Rattle.sqlite_trees.specs.View.{doubt}
use Rattle.sqlite.specs.Files.{file_state}
use Rattle.sqlite.specs.Held.{Held}
use Rattle.sqlite.specs.State.{HasCleanDisk}
use Rattle.sqlite.proofs.Shield.{shield_means}
use Rattle.atl_service.specs.Files.{HasCollided}

-- if the disk is clean, no wrong answer of it was taken as true: the number `doubt` is 0
no_doubt : (clean : Bool) → IsTrue clean → doubt clean ≡ 0
unfolding doubt
no_doubt true is = refl
no_doubt false is = absurd (false≢true is)

module _ {D : Type 0} {g : disk.Ghosts D} (start : D → List ℕ) (record_of : D → List Event) where
  -- a connection over files whose calls are recorded, and whose reads are compared with digests (it is shielded), has a
  -- clean disk, or two digests have collided
  pub shielded_is_clean : ((d : D) → g.is_fair d ≡ (replay (start d) (record_of d)).is_fair)
      → ((d : D) → g.is_clean d ≡ (replay (start d) (record_of d)).is_honest) → (conn : Held (FileStore D g))
      → is_shielded conn.store
      → HasCleanDisk (file_state conn) ⊎ HasCollided start record_of conn.store
  shielded_is_clean fair clean conn shielded =
      elim (shield_means start record_of fair clean conn.store shielded) [
        | inl is ↦ inl (no_doubt (file_state conn).is_clean is)
        | inr hit ↦ inr hit
      ]
