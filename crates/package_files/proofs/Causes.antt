-- A fault of a part is one of the whole.
use Rattle.std.specs.Prelude.{ℕ, List}
use Rattle.shelves.specs.Shelf.{Shelved, to_read}
use Rattle.package_files.specs.declared.fault.FileFault.{FileFault}
use Rattle.package_files.specs.declared.fault.FileFault.TheVariants as fault
use Rattle.package_files.specs.declared.listed.Source.{Source}
use Rattle.package_files.specs.declared.listed.Wanted.{Wanted}
use Rattle.package_files.specs.Faults.{IsUnread, IsUnreadAs, IsNotRead, IsNotListed, IsNotEarlier, IsNotListedBefore}
use Rattle.shelves.specs.AtPath.{IsContent, told_path}

pub unread : (s : Shelved) (w : Wanted) (path : List ℕ) (f : FileFault) → IsUnread s path f → IsNotListed s w path f
unread s w path (fault.Unreadable n e) is = is
unread s w path fault.Memory is = is
unread s w path (fault.Source n f) is = absurd is
unread s w path (fault.Empty n) is = absurd is

pub not_read : (s : Shelved) (w : Wanted) (path bytes : List ℕ) (f : FileFault) → IsContent s path bytes → IsNotRead w.source (told_path path) bytes f → IsNotListed s w path f
not_read s w path bytes (fault.Source n f) content is = (bytes, content, is.0, is.1)
not_read s w path bytes fault.Memory content is = is
not_read s w path bytes (fault.Unreadable n e) content is = absurd is
not_read s w path bytes (fault.Empty n) content is = absurd is

pub unread_before : (s : Shelved) (how : Source) (path : List ℕ) (f : FileFault) → IsUnreadAs path (s.Fails to_read path) f → IsNotListedBefore s how path f
unread_before s how path (fault.Unreadable n e) is = is
unread_before s how path fault.Memory is = is
unread_before s how path (fault.Source n f) is = absurd is
unread_before s how path (fault.Empty n) is = absurd is

pub not_read_before : (s : Shelved) (how : Source) (path bytes : List ℕ) (f : FileFault) → s.Holds path bytes → IsNotEarlier how path bytes f → IsNotListedBefore s how path f
not_read_before s how path bytes (fault.Source n f) holds is = (bytes, holds, is.0, is.1)
not_read_before s how path bytes fault.Memory holds is = is
not_read_before s how path bytes (fault.Unreadable n e) holds is = absurd is
not_read_before s how path bytes (fault.Empty n) holds is = absurd is
