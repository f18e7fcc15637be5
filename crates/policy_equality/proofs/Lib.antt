mod CompareLaws
