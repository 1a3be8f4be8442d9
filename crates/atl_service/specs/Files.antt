-- When a digest has collided: bytes that were read from a database file or its log differ from those written, but their
-- digests are equal. `D` is the type of a file, and `g` has what contracts say of one: `key_of` gives the key with
-- which digests are computed.
use Rattle.std.specs.Prelude.{◌⊎◌, ℕ, List}
use Rattle.sqlite_disk.specs.Events.{Event, HasCollision}
use Rattle.sqlite_disk.specs.declared.Disk as disk
use Rattle.sqlite_store.specs.declared.store.FileStore.{FileStore}
use Rattle.sqlite_store.specs.FileStore.{files}

module _ {D : Type 0} {g : disk.Ghosts D} where
  -- A read of the database file or its log gave other bytes than were written there, with the same digest under the
  -- log's key. Of each file `start` gives the bytes that it began with, and `record_of` its calls since.
  abbrev pub HasCollided : (D → List ℕ) → (D → List Event) → FileStore D g → Type 0
  HasCollided start record_of store =
      let log = (files store).0 in
      let db = (files store).1 in
      HasCollision (g.key_of log) (start log) (record_of log) ⊎ HasCollision (g.key_of log) (start db) (record_of db)
