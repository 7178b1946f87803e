-- What opening a file tells: a file that is open has a descriptor, which is not negative.
use Rattle.std.specs.Prelude.{◌≡◌, false, pos, Option, IfSome}
use Rattle.std.specs.Int.Signed.{lt_z}
use Rattle.std.specs.Fd.{file_raw_fd}
use Rattle.std.specs.declared.fs.File.{File}

abbrev pub is_open : File → Type 0
is_open file = lt_z (file_raw_fd file) (pos 0) ≡ false

abbrev pub opened : Option File → Type 0
opened result = IfSome result is_open
