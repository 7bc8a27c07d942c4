-- Which form a file of fields or elements has by its name, and by which word a form is asked for.
use Rattle.std.specs.Prelude.{ℕ, nat_eq, bytes_eq, ◌||◌, List, codes, Option, Some, None, option_and_then, if◌then◌else◌}
use Rattle.std.specs.Option.{option_or}
use Rattle.std.specs.List.{ends_with}
use Rattle.std.specs.Path.{path_file_name}
use Rattle.plain_manifests.specs.declared.form.PlainForm.{PlainForm}
use Rattle.plain_manifests.specs.declared.form.PlainForm.TheVariants.{Metadata, SetupCfg, SetupPy, Cabal, Opam, Gem, Mix, Rock, Meson, Rpm, Alpine, Arch, Snap, Conda, Galaxy, Helm, Citation, Docker, Dep5, Appstream, Nuget, Msbuild, Ros}

-- the form of the manifests of a language's packages that have this name
unfoldable pub by_name_of_languages : List ℕ → Option PlainForm
by_name_of_languages name =
    if bytes_eq name (codes "METADATA") || bytes_eq name (codes "PKG-INFO") then Some Metadata else
    if bytes_eq name (codes "setup.cfg") then Some SetupCfg else
    if bytes_eq name (codes "setup.py") then Some SetupPy else
    if bytes_eq name (codes "opam") then Some Opam else
    if bytes_eq name (codes "mix.exs") then Some Mix else
    if bytes_eq name (codes "meson.build") then Some Meson else
    if bytes_eq name (codes "package.xml") then Some Ros else
    None

-- the form of the manifests of a system's packages, and of other works, that have this name
unfoldable pub by_name_of_systems : List ℕ → Option PlainForm
by_name_of_systems name =
    if bytes_eq name (codes "APKBUILD") then Some Alpine else
    if bytes_eq name (codes "PKGBUILD") then Some Arch else
    if bytes_eq name (codes "snapcraft.yaml") then Some Snap else
    if bytes_eq name (codes "meta.yaml") then Some Conda else
    if bytes_eq name (codes "galaxy.yml") then Some Galaxy else
    if bytes_eq name (codes "Chart.yaml") then Some Helm else
    if bytes_eq name (codes "CITATION.cff") then Some Citation else
    if bytes_eq name (codes "Dockerfile") || bytes_eq name (codes "Containerfile") then Some Docker
    else
    None

-- the form of the files of fields whose name ends so
unfoldable pub by_ending : List ℕ → Option PlainForm
by_ending name =
    if ends_with nat_eq name (codes ".cabal") then Some Cabal else
    if ends_with nat_eq name (codes ".opam") then Some Opam else
    if ends_with nat_eq name (codes ".gemspec") then Some Gem else
    if ends_with nat_eq name (codes ".rockspec") then Some Rock else
    if ends_with nat_eq name (codes ".spec") then Some Rpm else
    None

-- the form of the files of elements whose name ends so
unfoldable pub by_ending_of_elements : List ℕ → Option PlainForm
by_ending_of_elements name =
    if ends_with nat_eq name (codes ".metainfo.xml") || ends_with nat_eq name (codes ".appdata.xml")
    then Some Appstream else
    if ends_with nat_eq name (codes ".nuspec") then Some Nuget else
    if ends_with nat_eq name (codes ".csproj") || ends_with nat_eq name (codes ".fsproj")
    then Some Msbuild else
    if ends_with nat_eq name (codes ".vbproj") || ends_with nat_eq name (codes ".props")
    then Some Msbuild else
    None

-- the form of the file that is at this path, by the folder that it is in
unfoldable pub by_place : List ℕ → Option PlainForm
by_place path =
    if ends_with nat_eq path (codes ".reuse/dep5") then Some Dep5 else
    None

-- the form of a language's packages that goes by this word
unfoldable pub by_word_of_languages : List ℕ → Option PlainForm
by_word_of_languages word =
    if bytes_eq word (codes "metadata") then Some Metadata else
    if bytes_eq word (codes "setup-cfg") then Some SetupCfg else
    if bytes_eq word (codes "setup-py") then Some SetupPy else
    if bytes_eq word (codes "cabal") then Some Cabal else
    if bytes_eq word (codes "opam") then Some Opam else
    if bytes_eq word (codes "gem") then Some Gem else
    if bytes_eq word (codes "mix") then Some Mix else
    if bytes_eq word (codes "rockspec") then Some Rock else
    if bytes_eq word (codes "meson") then Some Meson else
    None

-- the form of a system's packages that goes by this word
unfoldable pub by_word_of_systems : List ℕ → Option PlainForm
by_word_of_systems word =
    if bytes_eq word (codes "rpm") then Some Rpm else
    if bytes_eq word (codes "alpine") then Some Alpine else
    if bytes_eq word (codes "arch") then Some Arch else
    if bytes_eq word (codes "snap") then Some Snap else
    if bytes_eq word (codes "conda") then Some Conda else
    if bytes_eq word (codes "galaxy") then Some Galaxy else
    if bytes_eq word (codes "helm") then Some Helm else
    if bytes_eq word (codes "citation") then Some Citation else
    if bytes_eq word (codes "docker") then Some Docker else
    None

-- the form of elements that goes by this word, or of Debian's
unfoldable pub by_word_of_elements : List ℕ → Option PlainForm
by_word_of_elements word =
    if bytes_eq word (codes "dep5") then Some Dep5 else
    if bytes_eq word (codes "appstream") then Some Appstream else
    if bytes_eq word (codes "nuget") then Some Nuget else
    if bytes_eq word (codes "msbuild") then Some Msbuild else
    if bytes_eq word (codes "ros") then Some Ros else
    None

-- the form of the file with this name at a path
abbrev pub by_name : List ℕ → List ℕ → Option PlainForm
by_name path name =
    option_or (option_or
    (option_or (option_or (by_name_of_languages name) (by_name_of_systems name))
    (by_ending name))
    (by_ending_of_elements name)) (by_place path)

-- the form of the file at a path, by its name there
abbrev pub plain_form_of : List ℕ → Option PlainForm
plain_form_of path = option_and_then (by_name path) (path_file_name path)

-- the form that goes by a word
abbrev pub plain_form_named : List ℕ → Option PlainForm
plain_form_named word =
    option_or (option_or (by_word_of_languages word) (by_word_of_systems word))
    (by_word_of_elements word)
