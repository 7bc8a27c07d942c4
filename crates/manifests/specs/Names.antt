-- Which form of manifest a file has by its name, and by which word a form is asked for.
use Rattle.std.specs.Prelude.{ℕ, bytes_eq, List, codes, Option, Some, None, option_and_then, option_map, if◌then◌else◌}
use Rattle.std.specs.Option.{option_or}
use Rattle.std.specs.Path.{path_file_name}
use Rattle.manifests.specs.declared.form.Form.{Form}
use Rattle.manifests.specs.declared.form.Form.TheVariants.{Cargo, Npm, Bower, Jsr, Vcpkg, Elm, Composer, Pyproject, Reuse, Plain}
use Rattle.plain_manifests.specs.Names.{plain_form_of, plain_form_named}

-- the form of the files of JSON of this name
unfoldable pub by_json_name : List ℕ → Option Form
by_json_name name =
    if bytes_eq name (codes "package.json") then Some Npm else
    if bytes_eq name (codes "bower.json") then Some Bower else
    if bytes_eq name (codes "jsr.json") then Some Jsr else
    if bytes_eq name (codes "vcpkg.json") then Some Vcpkg else
    if bytes_eq name (codes "elm.json") then Some Elm else
    if bytes_eq name (codes "composer.json") then Some Composer else
    None

-- the form of the files of TOML of this name
unfoldable pub by_toml_name : List ℕ → Option Form
by_toml_name name =
    if bytes_eq name (codes "Cargo.toml") then Some Cargo else
    if bytes_eq name (codes "pyproject.toml") then Some Pyproject else
    if bytes_eq name (codes "REUSE.toml") then Some Reuse else
    None

-- the form that goes by this word
unfoldable pub by_word : List ℕ → Option Form
by_word name =
    if bytes_eq name (codes "cargo") then Some Cargo else
    if bytes_eq name (codes "npm") then Some Npm else
    if bytes_eq name (codes "bower") then Some Bower else
    if bytes_eq name (codes "jsr") then Some Jsr else
    if bytes_eq name (codes "vcpkg") then Some Vcpkg else
    if bytes_eq name (codes "elm") then Some Elm else
    if bytes_eq name (codes "composer") then Some Composer else
    if bytes_eq name (codes "pyproject") then Some Pyproject else
    if bytes_eq name (codes "reuse") then Some Reuse else
    None

-- the form of the file of JSON or TOML at a path, by its name there
abbrev pub document_form_of : List ℕ → Option Form
document_form_of path =
    option_and_then (λ name. option_or (by_json_name name) (by_toml_name name))
    (path_file_name path)

-- the form of the file at a path
abbrev pub form_of : List ℕ → Option Form
form_of path = option_or (document_form_of path) (option_map Plain (plain_form_of path))

-- the form that goes by a word
abbrev pub form_named : List ℕ → Option Form
form_named word = option_or (by_word word) (option_map Plain (plain_form_named word))
