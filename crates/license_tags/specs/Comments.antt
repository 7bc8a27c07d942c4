-- What begins a comment up to the end of its line, by a file's name and extension.
use Rattle.std.specs.Prelude.{ℕ, Bool, false, ◌||◌, nat_eq, bytes_eq, List, [], ◌∷◌, codes, unwrap_or, if◌then◌else◌}
use Rattle.std.specs.List.{list_any, starts_with}
use Rattle.std.specs.Path.{path_file_name, path_extension}
use Rattle.license_tags.specs.declared.comment.Comment.{Comment}
use Rattle.license_tags.specs.declared.comment.Comment.TheVariants.{Hash, Semicolon, Percent, Other}

-- names of files whose comments begin with `#`: of build files, of other tools, hidden ones
unfoldable pub hash_names : List (List ℕ)
hash_names =
    codes "Makefile" ∷
    codes "makefile" ∷
    codes "GNUmakefile" ∷
    codes "Kconfig" ∷
    codes "Kbuild" ∷
    codes "CMakeLists.txt" ∷
    codes "meson.build" ∷
    codes "BUILD" ∷
    codes "WORKSPACE" ∷
    codes "SConstruct" ∷
    codes "SConscript" ∷
    codes "Dockerfile" ∷
    codes "Containerfile" ∷
    codes "Gemfile" ∷
    codes "Rakefile" ∷
    codes "Vagrantfile" ∷
    codes "Pipfile" ∷
    codes "requirements.txt" ∷
    codes "PKGBUILD" ∷
    codes "Justfile" ∷
    codes "justfile" ∷
    codes "CODEOWNERS" ∷
    codes ".gitignore" ∷
    codes ".gitattributes" ∷
    codes ".gitmodules" ∷
    codes ".mailmap" ∷
    codes ".editorconfig" ∷
    codes ".dockerignore" ∷
    codes ".npmignore" ∷
    codes ".bashrc" ∷
    codes ".profile" ∷
    codes ".env" ∷
    []

-- extensions of files whose comments begin with `#`: of shells, scripts, other languages, data,
-- build files
unfoldable pub hash_extensions : List (List ℕ)
hash_extensions =
    codes "sh" ∷
    codes "bash" ∷
    codes "zsh" ∷
    codes "ksh" ∷
    codes "fish" ∷
    codes "bats" ∷
    codes "awk" ∷
    codes "sed" ∷
    codes "ps1" ∷
    codes "psm1" ∷
    codes "psd1" ∷
    codes "py" ∷
    codes "pyi" ∷
    codes "pyx" ∷
    codes "pl" ∷
    codes "pm" ∷
    codes "rb" ∷
    codes "rake" ∷
    codes "gemspec" ∷
    codes "r" ∷
    codes "R" ∷
    codes "jl" ∷
    codes "tcl" ∷
    codes "ex" ∷
    codes "exs" ∷
    codes "cr" ∷
    codes "nim" ∷
    codes "coffee" ∷
    codes "raku" ∷
    codes "robot" ∷
    codes "star" ∷
    codes "graphql" ∷
    codes "yml" ∷
    codes "yaml" ∷
    codes "toml" ∷
    codes "lock" ∷
    codes "cfg" ∷
    codes "conf" ∷
    codes "properties" ∷
    codes "po" ∷
    codes "pot" ∷
    codes "service" ∷
    codes "desktop" ∷
    codes "cmake" ∷
    codes "mk" ∷
    codes "mak" ∷
    codes "am" ∷
    codes "bzl" ∷
    codes "ninja" ∷
    codes "nix" ∷
    codes "tf" ∷
    codes "tfvars" ∷
    codes "hcl" ∷
    codes "spec" ∷
    []

-- extensions of files whose comments begin with `;`: Lisps, assemblers, INI and others
unfoldable pub semicolon_extensions : List (List ℕ)
semicolon_extensions =
    codes "lisp" ∷
    codes "lsp" ∷
    codes "el" ∷
    codes "scm" ∷
    codes "ss" ∷
    codes "rkt" ∷
    codes "clj" ∷
    codes "cljs" ∷
    codes "cljc" ∷
    codes "edn" ∷
    codes "asm" ∷
    codes "nasm" ∷
    codes "ini" ∷
    codes "ll" ∷
    []

-- extensions of files whose comments begin with `%`: TeX, Erlang and PostScript
unfoldable pub percent_extensions : List (List ℕ)
percent_extensions =
    codes "tex" ∷
    codes "sty" ∷
    codes "cls" ∷
    codes "ltx" ∷
    codes "dtx" ∷
    codes "ins" ∷
    codes "bst" ∷
    codes "bbx" ∷
    codes "cbx" ∷
    codes "erl" ∷
    codes "hrl" ∷
    codes "escript" ∷
    codes "ps" ∷
    []

-- the text is one of the words
abbrev pub is_among : List (List ℕ) → List ℕ → Bool
is_among words text = list_any (λ word. bytes_eq word text) words

-- the kind of the files of this name and extension
abbrev pub comment_named : List ℕ → List ℕ → Comment
comment_named name extension =
    if is_among hash_names name || is_among hash_extensions extension then Hash else
    if is_among semicolon_extensions extension then Semicolon else
    if is_among percent_extensions extension then Percent else
    Other

-- the kind of the file at a path, by its name there
abbrev pub comment_of : List ℕ → Comment
comment_of path =
    comment_named (unwrap_or (path_file_name path) []) (unwrap_or (path_extension path) [])

-- these bytes begin with what begins a comment
abbrev pub begins_comment : Comment → List ℕ → Bool
begins_comment Hash bytes = starts_with nat_eq bytes (codes "#")
begins_comment Semicolon bytes = starts_with nat_eq bytes (codes ";")
begins_comment Percent bytes = starts_with nat_eq bytes (codes "%")
begins_comment Other bytes = false
